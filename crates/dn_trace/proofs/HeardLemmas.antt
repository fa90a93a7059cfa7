-- What is heard of servers and clients.
use Rattle.std.proofs.Common.{◌≡◌, ℕ, zero, suc, ◌<◌, Bool, true, cond, List, [], ◌∷◌, length, get_or, refl, sym, ap, ◌∙◌, arith, inl, inr}
use Rattle.std.specs.Prelude.{Contains, find, ◌&&◌, Some, None}
use Rattle.std.proofs.lemmas.Bool.{eqb-true, eq-eqb, false≢true, cases_Bool, and_parts}
use Rattle.std.proofs.lemmas.Option.{same_Some, none-some}
use Rattle.dn_wire.specs.declared.ids.Round.{Round}
use Rattle.dn_wire.specs.declared.ids.ServerId.{ServerId}
use Rattle.dn_wire.specs.declared.ids.SignerId.{SignerId}
use Rattle.dn_wire.specs.declared.ids.SignerId.TheVariants as signers
use Rattle.dn_record_types.specs.declared.shown.ShownCipher.{ShownCipher}
use Rattle.dn_record_types.specs.declared.statement.Statement.{Statement}
use Rattle.dn_record_types.specs.declared.statement.Statement.TheVariants as kinds
use Rattle.dn_seal.specs.Dealt.{server}
use Rattle.dn_seal.specs.Said.{SaidView}
use Rattle.dn_trace.specs.Trial.{Trial, Heard, IsGiven, round_of}
use Rattle.dn_trace.specs.Reasons.{Shows, IsFirstShown, is_server, is_shown}

-- the first that passes is one that passes
pub found : {X : Type 0} (p : X → Bool) (xs : List X) (x : X) → find p xs ≡ Some x → Contains xs x × (p x ≡ true)
found p [] x e = absurd cc
found p (y ∷ xs) x e =
    elim (cases_Bool (p y)) [
      | inl t ↦
          let same : y ≡ x = same_Some y x (sym (ap (λ c. cond c (Some y) (find p xs)) t) ∙ e) in
          ((0, omega arith, same), ap p (sym same) ∙ t)
      | inr t ↦
          let r = found p xs x (sym (ap (λ c. cond c (Some y) (find p xs)) t) ∙ e) in
          ((suc r.0.0, omega (arith, r.0.1), r.0.2), r.1)
    ]

-- where one passes there is a first
pub finds : {X : Type 0} (p : X → Bool) (xs : List X) (k : ℕ) (d : X) → k < length xs → p (get_or xs k d) ≡ true → (x : X) × (find p xs ≡ Some x)
finds p [] k d lt t = absurd (omega arith)
finds p (y ∷ xs) zero d lt t = (y, ap (λ c. cond c (Some y) (find p xs)) t)
finds p (y ∷ xs) (suc k) d lt t =
    elim (cases_Bool (p y)) [
      | inl e ↦ (y, ap (λ c. cond c (Some y) (find p xs)) e)
      | inr e ↦ let r = finds p xs k d (omega arith) t in (r.0, ap (λ c. cond c (Some y) (find p xs)) e ∙ r.1)
    ]

pub server_is : (j : ℕ) (who : SignerId) → is_server j who ≡ true → who ≡ server j
server_is j (signers.Client i) h = absurd (false≢true h)
server_is j (signers.Server x) h = ap server (eqb-true x.0 j h)
server_is j (signers.Slot s) h = absurd (false≢true h)

pub shown_is : (r : Round) (s : Statement) → is_shown r s ≡ true → (own : List Bool) × (shown : List ShownCipher) × (s ≡ kinds.Shown r own shown)
shown_is r (kinds.Submission round prev i d) h = absurd (false≢true h)
shown_is r (kinds.Receipt round i d t) h = absurd (false≢true h)
shown_is r (kinds.Inventory v) h = absurd (false≢true h)
shown_is r (kinds.Commit round d) h = absurd (false≢true h)
shown_is r (kinds.Reveal round s) h = absurd (false≢true h)
shown_is r (kinds.Sign b) h = absurd (false≢true h)
shown_is r (kinds.PadBits round k bs) h = absurd (false≢true h)
shown_is r (kinds.Shown round s xs) h = (s, xs, ap (λ n. kinds.Shown record { 0 = n } s xs) (eqb-true round.0 r.0 h))
shown_is r (kinds.Accusation round s k) h = absurd (false≢true h)
shown_is r (kinds.Rebuttal round k x seed e) h = absurd (false≢true h)
shown_is r (kinds.Concede round k) h = absurd (false≢true h)

-- what a server shows is given
pub shown_given : (trial : Trial) (j : ℕ) (s : List Bool) (shown : List ShownCipher) → Shows trial j s shown
    → IsGiven trial (server j) (kinds.Shown (round_of trial) s shown)
shown_given trial j s shown (inl given) = given
shown_given trial j s shown (inr (inl carried)) = let e = carried.is in absurd cc
shown_given trial j s shown (inr (inr entered)) = let e = entered.client in absurd cc

-- a server that shows has a first ciphertext shown
pub first_shown : (trial : Trial) (j : ℕ) (s : List Bool) (shown : List ShownCipher) → Shows trial j s shown
    → (own : List Bool) × (of : List ShownCipher) × Shows trial j own of × IsFirstShown trial j own
first_shown trial j s shown shows =
    let given = shown_given trial j s shown shows in
    let p : SaidView → Bool = λ x. is_server j x.signer && is_shown (round_of trial) x.statement in
    let by : is_server j given.0.signer ≡ true = ap (is_server j) given.2 ∙ eq-eqb j j refl in
    let is : is_shown (round_of trial) given.0.statement ≡ true = ap (is_shown (round_of trial)) given.3 ∙ eq-eqb (round_of trial).0 (round_of trial).0 refl in
    let passes : p (get_or trial.given given.1.0 given.0) ≡ true = ap p given.1.2 ∙ (λ i. by i && is i) in
    let first = finds p trial.given given.1.0 given.0 given.1.1 passes in
    let at = found p trial.given first.0 first.1 in
    let parts = and_parts (is_server j first.0.signer) (is_shown (round_of trial) first.0.statement) at.1 in
    let of = shown_is (round_of trial) first.0.statement parts.1 in (
      of.0,
      of.1,
      inl (first.0, at.0, server_is j first.0.signer parts.0, of.2),
      record { said = first.0; first = first.1; shown = of.1; is = of.2 },
    )

-- the first ciphertext that a server shows is one that it shows
pub first_shows : (trial : Trial) (j : ℕ) (s : List Bool) (first : IsFirstShown trial j s) → Shows trial j s first.shown
first_shows trial j s first =
    let at = found (λ x. is_server j x.signer && is_shown (round_of trial) x.statement) trial.given first.said first.first in
    let by = and_parts (is_server j first.said.signer) (is_shown (round_of trial) first.said.statement) at.1 in
    inl (first.said, at.0, server_is j first.said.signer by.0, first.is)

-- where nothing is found, nothing is shown
pub nothing_shown : (trial : Trial) (j : ℕ) → find (λ x. is_server j x.signer && is_shown (round_of trial) x.statement) trial.given ≡ None
    → (s : List Bool) (shown : List ShownCipher) → ¬ Shows trial j s shown
nothing_shown trial j none s shown shows = let first = first_shown trial j s shown shows in none-some first.3.said (sym none ∙ first.3.first)

-- what is found is shown
pub found_shown : (trial : Trial) (j : ℕ) (x : SaidView) → find (λ y. is_server j y.signer && is_shown (round_of trial) y.statement) trial.given ≡ Some x
    → (own : List Bool) × (shown : List ShownCipher) × (x.statement ≡ kinds.Shown (round_of trial) own shown)
found_shown trial j x e =
    let at = found (λ y. is_server j y.signer && is_shown (round_of trial) y.statement) trial.given x e in
    shown_is (round_of trial) x.statement (and_parts (is_server j x.signer) (is_shown (round_of trial) x.statement) at.1).1

-- a rebuttal is heard where it is given
pub rebuttal_given : (trial : Trial) (who : SignerId) (r : Round) (k : ℕ) (x : ServerId) (seed envelope : List ℕ) → Heard trial who (kinds.Rebuttal r k x seed envelope)
    → IsGiven trial who (kinds.Rebuttal r k x seed envelope)
rebuttal_given trial who r k x seed envelope (inl given) = given
rebuttal_given trial who r k x seed envelope (inr (inl carried)) = let e = carried.is in absurd cc
rebuttal_given trial who r k x seed envelope (inr (inr entered)) = let e = entered.is in absurd cc
