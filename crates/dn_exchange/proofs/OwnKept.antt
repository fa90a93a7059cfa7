-- What a server keeps of its round, with a statement more.
use Rattle.std.proofs.Common.{◌≡◌, ℕ, zero, suc, ◌<◌, Bool, true, false, List, [], ◌∷◌, ◌++◌, length, get_or, Some, None, cond, refl, sym, ap, subst, ◌∙◌, arith, inl, inr}
use Rattle.std.specs.Prelude.{Option, Contains, find, option_map, ◌&&◌}
use Rattle.std.proofs.lemmas.Bool.{eq-eqb}
use Rattle.std.proofs.lemmas.List.Elements.{Contains-push_cases}
use Rattle.dn_wire.specs.declared.ids.SignerId.{SignerId}
use Rattle.dn_record_types.specs.declared.statement.Statement.{Statement}
use Rattle.dn_records.specs.Records.{kind_byte}
use Rattle.dn_seal.specs.Dealt.{server}
use Rattle.dn_seal.specs.Said.{SaidView}
use Rattle.dn_server.specs.Server.{is_server, is_of, kept_of, statement_of}
use Rattle.dn_rounds.specs.Going.{with_own}
use Rattle.dn_exchange.proofs.HonestMoves.{KeepsMore, keeps_same, keeps_push}
use Rattle.dn_exchange.proofs.KeptSound.{find_new}

-- one statement of a kind is kept from each signer
abbrev pub OneKept : List SaidView → Type 0
OneKept kept = (a b : SaidView) → Contains kept a → Contains kept b → a.signer ≡ b.signer → kind_byte a.statement ≡ kind_byte b.statement → a ≡ b

-- where none is found, none that passes is there
pub none_passes : {X : Type 0} (p : X → Bool) (xs : List X) (a : X) → find p xs ≡ None → (k : ℕ) → k < length xs → get_or xs k a ≡ a → p a ≡ true → ⊥
none_passes p [] a e k lt is pa = absurd (omega (arith, lt))
none_passes p (x ∷ xs) a e zero lt is pa = by (p x) (ap p is ∙ pa) e
  where
    by : (b : Bool) → b ≡ true → cond b (Some x) (find p xs) ≡ None → ⊥
    by true t n = let never = n in cc
    by false t n = let never = t in cc
none_passes p (x ∷ xs) a e (suc k) lt is pa = by (p x) (λ n. none_passes p xs a n k (omega (arith, lt)) is pa) e
  where
    by : (b : Bool) → (find p xs ≡ None → ⊥) → cond b (Some x) (find p xs) ≡ None → ⊥
    by true rest n = let never = n in cc
    by false rest n = rest n

is_of_one : (j kind : ℕ) (y : SaidView) → y.signer ≡ server j → kind_byte y.statement ≡ kind → is_of kind j y ≡ true
is_of_one j kind y e k =
    let by = subst (λ (w : SignerId). is_server j w ≡ true) (sym e) (eq-eqb j j refl) in
    let of = eq-eqb (kind_byte y.statement) kind k in
    (λ i. by i && of i)

-- a statement of a server more, where none of its kind was kept of it
pub one_push : (kept : List SaidView) (y : SaidView) (j : ℕ) → y.signer ≡ server j → kept_of kept (kind_byte y.statement) j ≡ None → OneKept kept → OneKept (kept ++ y ∷ [])
one_push kept y j by none one a b in_a in_b who kind = elim (Contains-push_cases kept y a in_a) [
  | inl old_a ↦ elim (Contains-push_cases kept y b in_b) [
    | inl old_b ↦ one a b old_a old_b who kind
    | inr new_b ↦
        absurd (none_passes (is_of (kind_byte y.statement) j) kept a none old_a.0 old_a.1 old_a.2
        (is_of_one j (kind_byte y.statement) a (who ∙ ap (λ (z : SaidView). z.signer) (sym new_b) ∙ by) (kind ∙ ap (λ (z : SaidView). kind_byte z.statement) (sym new_b))))
  ]
  | inr new_a ↦ elim (Contains-push_cases kept y b in_b) [
    | inl old_b ↦
        absurd (none_passes (is_of (kind_byte y.statement) j) kept b none old_b.0 old_b.1 old_b.2
        (is_of_one j (kind_byte y.statement) b (sym who ∙ ap (λ (z : SaidView). z.signer) (sym new_a) ∙ by) (sym kind ∙ ap (λ (z : SaidView). kind_byte z.statement) (sym new_a))))
    | inr new_b ↦ sym new_a ∙ new_b
  ]
]

-- what the server itself says is kept, where none of the kind was, or the same
module _ (kept : List SaidView) (y : SaidView) (j : ℕ) (by : y.signer ≡ server j) where
  pub own_keeps : (o : Option SaidView) → KeepsMore kept (with_own o kept y)
  own_keeps None = keeps_push kept y
  own_keeps (Some other) = keeps_same kept

  pub own_one : (o : Option SaidView) → kept_of kept (kind_byte y.statement) j ≡ o → OneKept kept → OneKept (with_own o kept y)
  own_one None e one = one_push kept y j by e one
  own_one (Some other) e one = one

  pub own_there : (o : Option SaidView) → kept_of kept (kind_byte y.statement) j ≡ o
      → ((other : Statement) → statement_of kept (kind_byte y.statement) j ≡ Some other → other ≡ y.statement)
      → statement_of (with_own o kept y) (kind_byte y.statement) j ≡ Some y.statement
  own_there None e free = ap (option_map (λ (z : SaidView). z.statement)) (find_new (is_of (kind_byte y.statement) j) kept y e (is_of_one j (kind_byte y.statement) y by refl))
  own_there (Some other) e free =
      let there : statement_of kept (kind_byte y.statement) j ≡ Some other.statement = ap (option_map (λ (z : SaidView). z.statement)) e in
      there ∙ ap Some (free other.statement there)
