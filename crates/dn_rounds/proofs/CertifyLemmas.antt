-- The signatures that a server keeps on the body of its round.
use Rattle.std.proofs.Common.{◌≡◌, ℕ, ◌+◌, ◌<◌, List, [], ◌∷◌, ◌++◌, length, get_or, Some, refl, sym, ap, subst, ◌∙◌, arith, inl, inr}
use Rattle.std.specs.Prelude.{All, Result, Ok, Err, IfOk, Option, None, IsSome, option_map}
use Rattle.std.proofs.lemmas.Bool.{cases_lt}
use Rattle.std.proofs.lemmas.List.{length_push, get_or_push, get_or_append_left}
use Rattle.std.proofs.lemmas.Option.{slice_get_within, slice_get-get_or, get_or_from_slice_get}
use Rattle.dn_lms.proofs.SizeLemmas.{verified_short}
use Rattle.dn_wire.specs.declared.ids.SignerId.{SignerId}
use Rattle.dn_record_types.specs.declared.body.Body.{Body}
use Rattle.dn_record_types.specs.declared.statement.Statement.{Statement}
use Rattle.dn_record_types.specs.declared.statement.Statement.TheVariants as kinds
use Rattle.dn_roster.specs.Roster.{RosterView, key_of, digest_of}
use Rattle.dn_record_types.specs.declared.payload.Payload.TheVariants as payloads
use Rattle.dn_records.specs.Records.{IsPayload}
use Rattle.dn_cert.specs.Certificate.{IsOfRoster, IsSigned}
use Rattle.dn_seal.specs.Dealt.{server}
use Rattle.dn_seal.specs.Said.{SaidView, IsSaid, IsUnder, Signs}
use Rattle.dn_seal.specs.Signer.{envelope}
use Rattle.dn_server.specs.Server.{is_of, kept_of, statement_of}
use Rattle.dn_rounds.specs.Certifying.{IsSignatureBy, AreSignatures}
use Rattle.dn_server.specs.Keeping.{HasAll}
use Rattle.dn_server.proofs.Shapes.{sign_shape}
use Rattle.dn_server.proofs.KeptLemmas.{kept_by, kept_kind, All-find}

statement_is : (a b : Statement) → Some a ≡ Some b → a ≡ b
statement_is a b e = cc

pub signature_by_is : (roster : RosterView) (kept : List SaidView) (b : Body) (j : ℕ) (said : SaidView) (sig : List ℕ) → kept_of kept 6 j ≡ Some said
    → statement_of kept 6 j ≡ Some (kinds.Sign b) → All (IsUnder roster) kept → IsSaid said → said.signature ≡ sig → IsSignatureBy roster kept b j sig
signature_by_is roster kept b j said sig e says under is same =
    let by = kept_by kept 6 j said e in
    let statement = statement_is said.statement (kinds.Sign b) (sym (ap (option_map (λ (s : SaidView). s.statement)) e) ∙ says) in
    let mine = All-find (IsUnder roster) (is_of 6 j) kept said under e in
    let key = get_or_from_slice_get roster.servers j said.key [] (sym (ap (key_of roster) by) ∙ mine.1) in
    let known = get_or roster.servers j [] in
    record {
      kept_so = ap (option_map (λ (s : SaidView). s.signature)) e ∙ ap Some same;
      signs =
          subst (λ (l : List ℕ). Signs (digest_of roster) known (envelope (server j) (kinds.Sign b) l)) same
          (subst (λ (x : Statement). Signs (digest_of roster) known (envelope (server j) x said.signature)) statement
          (subst (λ (w : SignerId). Signs (digest_of roster) known (envelope w said.statement said.signature)) by
          (subst (λ (k : List ℕ). Signs (digest_of roster) k (envelope said.signer said.statement said.signature)) (sym key)
          (subst (λ (d : List ℕ). Signs d said.key (envelope said.signer said.statement said.signature)) mine.0 is.verifies))));
      short = subst (λ (l : List ℕ). length l < 65536) same (let long = verified_short said.key _ said.signature is.verifies in omega (arith, long));
    }

-- one more in the list
pub signatures_more : (roster : RosterView) (kept : List SaidView) (b : Body) (n : ℕ) (xs : List (List ℕ)) (x : List ℕ) → AreSignatures roster kept b n xs
    → IsSignatureBy roster kept b n x → AreSignatures roster kept b (n + 1) (xs ++ x ∷ [])
signatures_more roster kept b n xs x are is = record {
  each = length_push xs x ∙ ap (λ k. k + 1) are.each;
  by = λ j y there.
      let within = slice_get_within (xs ++ x ∷ []) j y there in
      let long = length_push xs x in
      let long_n = are.each in
      let here = slice_get-get_or (xs ++ x ∷ []) j y within in
      elim (cases_lt j (length xs)) [
        | inl lt ↦ are.by j y (slice_get-get_or xs j y lt ∙ ap Some (sym (get_or_append_left xs (x ∷ []) y j lt)) ∙ sym here ∙ there)
        | inr ge ↦
            let last : length xs ≡ j = omega arith in
            let same : Some x ≡ Some y = ap Some (sym (get_or_push xs x y j last)) ∙ sym here ∙ there in
            let value : x ≡ y = cc in
            let place : n ≡ j = omega arith in
            subst (λ z. IsSignatureBy roster kept b j z) value (subst (λ k. IsSignatureBy roster kept b k x) place is)
      ];
}

-- where no server signed another body, each that signed one signed this one
pub all_sign : (kept : List SaidView) (n : ℕ) (b : Body) → HasAll 6 kept n
    → ((x : ℕ) (c : Body) → x < n → statement_of kept 6 x ≡ Some (kinds.Sign c) → c ≡ b) → (j : ℕ) → j < n → statement_of kept 6 j ≡ Some (kinds.Sign b)
all_sign kept n b has one j lt = by (kept_of kept 6 j) refl (has j lt)
  where
    by : (o : Option SaidView) → kept_of kept 6 j ≡ o → IsSome o → statement_of kept 6 j ≡ Some (kinds.Sign b)
    by None e h = let never = h in cc
    by (Some said) e h =
        let shape = sign_shape said.statement (kept_kind kept 6 j said e) in
        let says : statement_of kept 6 j ≡ Some (kinds.Sign shape.0) = ap (option_map (λ (s : SaidView). s.statement)) e ∙ ap Some shape.1 in
        says ∙ ap (λ x. Some (kinds.Sign x)) (one j shape.0 lt says)

-- what two facts of a result give together
pub if_both : {X Y : Type 0} (r : Result X Y) (P Q R : X → Type 0) → ((x : X) → P x → Q x → R x) → IfOk r P → IfOk r Q → IfOk r R
if_both (Ok x) P Q R f p q = f x p q
if_both (Err e) P Q R f p q = tt

-- the signatures make a certificate of the body
pub are_signed : (roster : RosterView) (kept : List SaidView) (b : Body) (signatures : List (List ℕ)) → AreSignatures roster kept b (length roster.servers) signatures → IsOfRoster roster b
    → IsPayload (payloads.Certificate b signatures) → IsSigned (digest_of roster) roster.version (length roster.clients) roster.servers b signatures
are_signed roster kept b signatures are group fits = record {
  fits = fits;
  each = are.each;
  within = group;
  signed = λ j lt.
      let within : j < length signatures = omega (arith, are.each) in
      (are.by j (get_or signatures j []) (slice_get-get_or signatures j [] within)).signs;
}
