-- What contracts see of a gate, a pass and a closing.
use Rattle.std.specs.Prelude.{◌≡◌, ℕ, ◌-◌, ◌<◌, List, [], ◌∷◌, length, map, Option, Some, None}
use Rattle.atomic_table.specs.Seated.{TableId}
use Rattle.atomic_table.specs.Table.{Me}
use Rattle.dn_gate.specs.Draws.{Draw}
use Rattle.dn_counts.specs.Numbers.{least}
use Rattle.dn_gate.specs.Rule.{closed, view, has_closing, Ascends, IsIdle}
use Rattle.dn_gate.specs.declared.view.View.{View}
use Rattle.dn_wire.specs.declared.ids.ClientId.{ClientId}

abbrev pub numbers_of : List ClientId → List ℕ
numbers_of = map (λ c. c.0)

-- which gate it is
pub record GateId : Type 0 where
  pub table : TableId
  pub clients : ℕ
  pub passes : ℕ
  pub before : List ℕ

-- a pass: its gate, which of the gate's seats it is, the numbers of the passes that it stands for, its draws by place, the clients that it marked with the values that
-- it put, its repeats with the number of the pass that made each, the count of its closing; where it is between a claim and its mark: the client that it claimed, or that
-- it drew for and didn't mark, and the slots that it holds; the clients whose words it looked at, each with the word that it found, and the clients whose values it took
pub record PassView (T : Type 0) : Type 0 where
  pub gate : GateId
  pub seat : ℕ
  pub numbers : List ℕ
  pub draws : List Draw
  pub values : List (ℕ × T)
  pub repeats : List (ℕ × ℕ)
  pub closing : Option ℕ
  pub claim : Option ℕ
  pub unmarked : Option ℕ
  pub held : List (ℕ × Option T)
  pub looked : List (ℕ × ℕ)
  pub taken : List ℕ
  pub refused : List ℕ

-- a closing: its gate, and how many draws there were before
pub record ClosingView : Type 0 where
  pub gate : GateId
  pub count : ℕ

abbrev pub included : ℕ → ℕ → Draw
included place i = record { place = place; client = i; late = None }

abbrev pub came_late : ℕ → ℕ → Draw
came_late i seen = record { place = seen - closed; client = i; late = Some seen }

module _ {T : Type 0} where
  abbrev pub gate_of : TableId → View T → GateId
  gate_of table v = record { table = table; clients = v.clients; passes = v.passes; before = v.before }

  abbrev pub pass_view : TableId → ℕ → Me (Option T) (View T) → PassView T
  pass_view table seat m =
      record { gate = gate_of table m.0; seat = seat; numbers = m.0.numbers; draws = m.0.draws; values = m.0.values; repeats = m.0.repeats; closing = m.0.closing; claim = m.0.claim; unmarked = m.0.unmarked; held = m.1; looked = m.0.looked; taken = m.0.taken; refused = m.0.refused }

  -- not in mid-call
  abbrev pub IsReady : PassView T → Type 0
  IsReady p = (p.claim ≡ None) × (p.unmarked ≡ None)

  -- what a pass keeps between two calls
  pub record IsPass (me : Me (Option T) (View T)) (number : ℕ) : Type 0 where
    pub live : 0 < length me.0.numbers
    pub least_is : number ≡ least me.0.numbers
    pub empty : IsIdle me.0 → me.1 ≡ []
    pub ascends : Ascends me.0.draws
    pub made : me.0.closings ≡ has_closing me.0

  abbrev pub IsSamePass : PassView T → PassView T → Type 0
  IsSamePass p q = (q.gate ≡ p.gate) × (q.seat ≡ p.seat) × (q.numbers ≡ p.numbers) × (q.looked ≡ p.looked) × (q.taken ≡ p.taken)

  -- the pass, or one joined into it, made the closing
  abbrev pub IsClosingOf : PassView T → ClosingView → Type 0
  IsClosingOf p c = (c.gate ≡ p.gate) × (p.closing ≡ Some c.count)

  -- what a closing keeps: the right to take values, and nothing else
  abbrev pub IsRight : Me (Option T) (View T) → Type 0
  IsRight me = me ≡ (view me.0.passes me.0.clients me.0.before [] None None [] [] [] None [] [] 1 [] 0, [])

  -- a pass's view again
  abbrev pub as_view : PassView T → View T
  as_view p = view p.gate.passes p.gate.clients p.gate.before p.numbers p.claim p.unmarked p.draws p.values p.repeats p.closing p.looked p.taken 0 p.refused 0

  -- pass i, as `make` gives it
  pub record IsFresh (gate : GateId) (i : ℕ) (p : PassView T) : Type 0 where
    pub gate_is : p.gate ≡ gate
    pub numbers : p.numbers ≡ i ∷ []
    pub nothing : (p.draws ≡ []) × (p.values ≡ []) × (p.repeats ≡ []) × (p.closing ≡ None) × (p.claim ≡ None) × (p.unmarked ≡ None) × (p.looked ≡ []) × (p.taken ≡ []) × (p.refused ≡ [])

  -- a pass that took no part in a closing
  abbrev pub IsNew : GateId → PassView T → Type 0
  IsNew gate p = (p.gate ≡ gate) × IsReady p × (p.closing ≡ None)
