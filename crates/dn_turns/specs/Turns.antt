-- What contracts see of a lock, a pass and a turn.
use Rattle.std.specs.Prelude.{◌≡◌, ℕ, ◌+◌, ◌<◌, ◌≤◌, List, [], ◌∷◌, Option, Some, None, length, IfSome}
use Rattle.atomic_table.specs.Seated.{TableId}
use Rattle.atomic_table.specs.Table.{Me}
use Rattle.dn_counts.specs.Numbers.{least}
use Rattle.dn_turns.specs.Rule.{limit}
use Rattle.dn_turns.specs.declared.view.View.{View}

-- which lock it is
pub record LockId : Type 0 where
  pub table : TableId
  pub passes : ℕ

-- a pass: its lock, which of the lock's seats it is, the base of the log, the numbers that it stands for, how many tickets it drew, the log where it has its turn,
-- the log that it has seen, and the count of tickets where it found it at the limit
pub record PassView (E B : Type 0) : Type 0 where
  pub lock : LockId
  pub seat : ℕ
  pub base : Option B
  pub numbers : List ℕ
  pub drawn : ℕ
  pub turn : Option (List (ℕ × E))
  pub seen : List (ℕ × E)
  pub full : Option ℕ

-- a turn: its lock, the seat of its pass, and the log that it lends
pub record TurnView (L : Type 0) : Type 0 where
  pub lock : LockId
  pub seat : ℕ
  pub log : L

module _ {E B : Type 0} where
  abbrev pub pass_view : TableId → ℕ → View E B → PassView E B
  pass_view table seat v = record { lock = record { table = table; passes = v.passes }; seat = seat; base = v.base; numbers = v.numbers; drawn = v.drawn; turn = v.turn; seen = v.seen; full = v.full }

  abbrev pub turn_view : {L : Type 0} → TableId → ℕ → View E B → L → TurnView L
  turn_view table seat v log = record { lock = record { table = table; passes = v.passes }; seat = seat; log = log }

  -- pass i, as `make` gives it
  pub record IsFresh (lock : LockId) (base : B) (log : List (ℕ × E)) (i : ℕ) (p : PassView E B) : Type 0 where
    pub lock_is : p.lock ≡ lock
    pub base_is : p.base ≡ Some base
    pub numbers : p.numbers ≡ i ∷ []
    pub drawn : p.drawn ≡ 0
    pub turn : p.turn ≡ None
    pub seen : p.seen ≡ log
    pub full : p.full ≡ None

  -- the same pass of the same lock, standing for the same numbers
  abbrev pub IsSamePass : PassView E B → PassView E B → Type 0
  IsSamePass p q = (q.lock ≡ p.lock) × (q.seat ≡ p.seat) × (q.base ≡ p.base) × (q.numbers ≡ p.numbers)

  -- the turn is this pass's
  abbrev pub IsTurnOf : {L : Type 0} → (L → List (ℕ × E)) → (L → B) → TurnView L → PassView E B → Type 0
  IsTurnOf list base_of t p = (t.lock ≡ p.lock) × (t.seat ≡ p.seat) × (p.turn ≡ Some (list t.log)) × (p.base ≡ Some (base_of t.log))

  module _ {L : Type 0} (list : L → List (ℕ × E)) (base_of : L → B) where
    -- what a pass keeps between two calls
    pub record IsPass (me : Me (Option L) (View E B)) (number : ℕ) (full : Option ℕ) : Type 0 where
      pub live : 0 < length me.0.numbers
      pub least : number ≡ least me.0.numbers
      pub same : full ≡ me.0.full
      pub past : IfSome full (λ n. limit ≤ n)
      pub settled : me.0.met ≡ []
      pub out : me.0.turn ≡ None → (me.1 ≡ []) × (me.0.ticket ≡ None)
      pub lent : (g : List (ℕ × E)) → me.0.turn ≡ Some g → (held : Option L) × (me.1 ≡ (0, held) ∷ [])
