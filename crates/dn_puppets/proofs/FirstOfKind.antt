-- The first twist of a kind.
use Rattle.std.proofs.Common.{◌≡◌, ℕ, ◌+◌, ◌<◌, ◌≤◌, true, false, List, length, get_or, Option, Some, None, refl, sym, ap, subst, ◌∙◌, arith, inl, inr}
use Rattle.std.specs.Prelude.{slice_get, remove}
use Rattle.std.proofs.lemmas.Bool.{cases_lt}
use Rattle.std.proofs.lemmas.Option.{slice_get_within, slice_get-get_or}
use Rattle.dn_script.specs.declared.script_line.Twist.{Twist}
use Rattle.dn_script.specs.declared.script_line.Twist.TheVariants as twists
use Rattle.dn_puppets.specs.declared.waiting.TwistKind.{TwistKind}
use Rattle.dn_puppets.specs.Waiting.{is_of, IsAt, NoneBefore, IsFirst, Spends}

-- what there is at a place is of the kind
abbrev pub IsThere : TwistKind → List Twist → ℕ → Type 0
IsThere kind waiting i = (twist : Twist) → slice_get waiting i ≡ Some twist → is_of kind twist ≡ true

-- the twist at a place isn't of the kind either
pub none_more : (kind : TwistKind) (waiting : List Twist) (i : ℕ) (x : Twist) → i < length waiting → x ≡ get_or waiting i x → is_of kind x ≡ false
    → NoneBefore kind waiting i → NoneBefore kind waiting (i + 1)
none_more kind waiting i x within is other before = λ k twist lt there.
    elim (cases_lt k i) [
      | inl low ↦ before k twist low there
      | inr high ↦
          let same : k ≡ i = omega arith in
          let here : slice_get waiting i ≡ Some x = slice_get-get_or waiting i x within ∙ ap Some (sym is) in
          let one : twist ≡ x = let e : Some twist ≡ Some x = sym there ∙ ap (slice_get waiting) same ∙ here in cc in
          ap (is_of kind) one ∙ other
    ]

-- the twist at the first place is the first
pub first_at : (kind : TwistKind) (waiting : List Twist) (i : ℕ) (o : Option Twist) → o ≡ slice_get waiting i → i ≤ length waiting → NoneBefore kind waiting i → IsThere kind waiting i
    → IsFirst kind waiting o
first_at kind waiting i (Some twist) e within before there = (i, (sym e, there twist (sym e)), before)
first_at kind waiting i None e within before there =
    elim (cases_lt i (length waiting)) [
      | inl low ↦ let here = slice_get-get_or waiting i twists.Mute low in absurd (let no : None ≡ Some (get_or waiting i twists.Mute) = e ∙ here in cc)
      | inr high ↦ subst (NoneBefore kind waiting) (omega arith) before
    ]

-- it is taken out
pub spends_at : (kind : TwistKind) (old new : List Twist) (i : ℕ) (x : Twist) → i < length old → x ≡ get_or old i x → new ≡ remove old i → NoneBefore kind old i → IsThere kind old i
    → Spends kind old (Some x) new
spends_at kind old new i x within is removed before there =
    let here : slice_get old i ≡ Some x = slice_get-get_or old i x within ∙ ap Some (sym is) in
    (i, (here, there x here), before, removed)

-- there is none
pub spends_none : (kind : TwistKind) (old : List Twist) (i : ℕ) → i ≡ length old → NoneBefore kind old i → Spends kind old None old
spends_none kind old i last before = (subst (NoneBefore kind old) last before, refl)
