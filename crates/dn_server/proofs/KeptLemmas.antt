-- What is known of a statement that is kept.
use Rattle.std.proofs.Common.{◌≡◌, ℕ, ◌+◌, Bool, true, false, List, [], ◌∷◌, ◌++◌, length, cond, Some, None, refl, sym, ap, subst, ◌∙◌, arith, inl, inr}
use Rattle.std.specs.Prelude.{Option, find, option_map, All, ◌==◌, ◌&&◌}
use Rattle.std.proofs.lemmas.Bool.{cases_lt, eqb-true}
use Rattle.std.proofs.lemmas.List.{length_push, get_or_push, get_or_append_left}
use Rattle.std.proofs.lemmas.List.Elements.{All-head, All-tail}
use Rattle.std.proofs.lemmas.Option.{slice_get_within, slice_get-get_or}
use Rattle.dn_wire.specs.declared.ids.Round.{Round}
use Rattle.dn_wire.specs.declared.ids.SignerId.{SignerId}
use Rattle.dn_wire.specs.declared.ids.SignerId.TheVariants as signers
use Rattle.dn_record_types.specs.declared.statement.Statement.{Statement}
use Rattle.dn_records.specs.Records.{kind_byte}
use Rattle.dn_seal.specs.Said.{SaidView}
use Rattle.dn_seal.specs.Dealt.{server}
use Rattle.dn_server.specs.Server.{is_server, is_of, kept_of, statement_of, AreKept}
use Rattle.dn_server.specs.Keeping.{round_of, AreOfRound}
use Rattle.dn_server.proofs.FindLemmas.{find_passes}

both : (a b : Bool) → (a && b) ≡ true → (a ≡ true) × (b ≡ true)
both true b e = (refl, e)
both false b e = cc

-- what is kept under a kind and a server is of that kind
pub kept_kind : (kept : List SaidView) (kind j : ℕ) (said : SaidView) → kept_of kept kind j ≡ Some said → kind_byte said.statement ≡ kind
kept_kind kept kind j said e =
    eqb-true (kind_byte said.statement) kind (both (is_server j said.signer) (kind_byte said.statement == kind) (find_passes (is_of kind j) kept said e)).1

server_so : (j : ℕ) (who : SignerId) → is_server j who ≡ true → who ≡ server j
server_so j (signers.Client i) e = cc
server_so j (signers.Server x) e = let same = eqb-true x.0 j e in λ k. signers.Server (record { 0 = same k })
server_so j (signers.Slot s) e = cc

-- and by that server
pub kept_by : (kept : List SaidView) (kind j : ℕ) (said : SaidView) → kept_of kept kind j ≡ Some said → said.signer ≡ server j
kept_by kept kind j said e =
    server_so j said.signer (both (is_server j said.signer) (kind_byte said.statement == kind) (find_passes (is_of kind j) kept said e)).0

module _ {X : Type 0} (P : X → Type 0) (p : X → Bool) where
  one_so : (b : Bool) (x y : X) (o : Option X) → P x → (o ≡ Some y → P y) → cond b (Some x) o ≡ Some y → P y
  one_so true x y o h f e = let same : x ≡ y = cc in subst P same h
  one_so false x y o h f e = f e

  pub All-find : (xs : List X) (y : X) → All P xs → find p xs ≡ Some y → P y
  All-find [] y h e = cc
  All-find (x ∷ xs) y h e = one_so (p x) x y (find p xs) (All-head P x xs h) (λ g. All-find xs y (All-tail P x xs h) g) e

-- of the round of all
pub kept_round : (r : Round) (kept : List SaidView) (kind j : ℕ) (said : SaidView) → AreOfRound r kept → kept_of kept kind j ≡ Some said
    → round_of said.statement ≡ Some r
kept_round r kept kind j said h e = All-find (λ (s : SaidView). round_of s.statement ≡ Some r) (is_of kind j) kept said h e

-- one more in the list
pub kept_more : {A : Type 0} (make : A → Statement) (kind : ℕ) (kept : List SaidView) (n : ℕ) (xs : List A) (x : A) → AreKept make kind kept n xs
    → statement_of kept kind n ≡ Some (make x) → AreKept make kind kept (n + 1) (xs ++ x ∷ [])
kept_more make kind kept n xs x are e = record {
  each = length_push xs x ∙ ap (λ k. k + 1) are.each;
  say = λ j y there.
      let within = slice_get_within (xs ++ x ∷ []) j y there in
      let long = length_push xs x in
      let long_n = are.each in
      elim (cases_lt j (length xs)) [
        | inl lt ↦
            let same = slice_get-get_or (xs ++ x ∷ []) j y within in
            let left = slice_get-get_or xs j y lt in
            are.say j y (left ∙ ap Some (sym (get_or_append_left xs (x ∷ []) y j lt)) ∙ sym same ∙ there)
        | inr ge ↦
            let last : length xs ≡ j = omega arith in
            let same = slice_get-get_or (xs ++ x ∷ []) j y within in
            let is : Some x ≡ Some y = ap Some (sym (get_or_push xs x y j last)) ∙ sym same ∙ there in
            let value : x ≡ y = cc in
            let here : n ≡ j = omega arith in
            subst (λ k. statement_of kept kind k ≡ Some (make y)) here (e ∙ ap (λ z. Some (make z)) value)
      ];
}

pub kept_none : {A : Type 0} (make : A → Statement) (kind : ℕ) (kept : List SaidView) → AreKept make kind kept 0 []
kept_none make kind kept = record {
  each = refl;
  say = λ j y there. cc;
}

-- the statement that is kept, with its envelope
pub statement_said : (kept : List SaidView) (kind j : ℕ) (s : Statement) → statement_of kept kind j ≡ Some s
    → (said : SaidView) × (kept_of kept kind j ≡ Some said) × (said.statement ≡ s)
statement_said kept kind j s e = by (kept_of kept kind j) refl e
  where
    by : (o : Option SaidView) → kept_of kept kind j ≡ o → option_map (λ (x : SaidView). x.statement) o ≡ Some s
        → (said : SaidView) × (kept_of kept kind j ≡ Some said) × (said.statement ≡ s)
    by None is e = cc
    by (Some said) is e = (said, is, (cc))
