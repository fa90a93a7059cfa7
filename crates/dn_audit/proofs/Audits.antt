-- What calls of an auditor add.
use Rattle.std.proofs.Common.{◌≡◌, ℕ, ◌⊎◌, List, [], ◌∷◌, ◌++◌, IsTrue, map, take, refl, ap, sym, subst, ◌∙◌, append_assoc}
use Rattle.std.specs.Prelude.{Contains, ◌↔◌, ◌<◌, ◌+◌, length, get_or, Result, Ok, Err, OnOk, IfOk}
use Rattle.std.proofs.lemmas.List.{map_more, append-nil}
use Rattle.dn_memory.specs.declared.NoMemory.{NoMemory}
use Rattle.dn_wire.specs.declared.ids.SignerId.{SignerId}
use Rattle.dn_record_types.specs.declared.statement.Statement.{Statement}
use Rattle.dn_record_types.specs.declared.shown.ShownCipher.{ShownCipher}
use Rattle.dn_audit.specs.Strings.{Hashed, StringsView, Tells}
use Rattle.dn_audit.specs.Auditor.{AuditorView, RunStrings, TellsOf, NoStringsCollide, AddsStrings, NotesSigned, hashed_cipher, with_ciphers, with_shown}

pub on_ok : {A E : Type 0} (r : Result A E) (P Q : Type 0) → (P → Q) → OnOk r P → OnOk r Q
on_ok (Ok a) P Q then is = then is
on_ok (Err e) P Q then is = is

pub if_ok : {A E : Type 0} (r : Result A E) (P Q : A → Type 0) → ((a : A) → P a → Q a) → IfOk r P → IfOk r Q
if_ok (Ok a) P Q then is = then a is
if_ok (Err e) P Q then is = is

module _ (v : AuditorView) (new : StringsView) (s t : Hashed) (same : s ≡ t) where
  added : (old : StringsView) → ((xs : List Hashed) → Tells old xs → Tells new (xs ++ s ∷ [])) → (xs : List Hashed) → Tells old xs → Tells new (xs ++ t ∷ [])
  added old h xs tells = subst (λ x. Tells new (xs ++ x ∷ [])) same (h xs tells)

  pub adds_seed : ((xs : List Hashed) → Tells v.seeds xs → Tells new (xs ++ s ∷ [])) → AddsStrings v (record v { seeds = new }) (λ x. record x { seeds = x.seeds ++ t ∷ [] })
  adds_seed h = record {
    signed = refl;
    are_theirs = refl;
    tells = λ x tells. record { seeds = added v.seeds h x.seeds tells.seeds; ciphers = tells.ciphers; sums = tells.sums };
  }

  pub adds_cipher : ((xs : List Hashed) → Tells v.ciphers xs → Tells new (xs ++ s ∷ [])) → AddsStrings v (record v { ciphers = new }) (λ x. record x { ciphers = x.ciphers ++ t ∷ [] })
  adds_cipher h = record {
    signed = refl;
    are_theirs = refl;
    tells = λ x tells. record { seeds = tells.seeds; ciphers = added v.ciphers h x.ciphers tells.ciphers; sums = tells.sums };
  }

  pub adds_sum : ((xs : List Hashed) → Tells v.sums xs → Tells new (xs ++ s ∷ [])) → AddsStrings v (record v { sums = new }) (λ x. record x { sums = x.sums ++ t ∷ [] })
  adds_sum h = record {
    signed = refl;
    are_theirs = refl;
    tells = λ x tells. record { seeds = tells.seeds; ciphers = tells.ciphers; sums = added v.sums h x.sums tells.sums };
  }

-- first these, and then those
pub adds_both : (a b c : AuditorView) (more then : RunStrings → RunStrings) → AddsStrings a b more → AddsStrings b c then → AddsStrings a c (λ x. then (more x))
adds_both a b c more then first second = record {
  signed = second.signed ∙ first.signed;
  are_theirs = second.are_theirs ∙ first.are_theirs;
  tells = λ x tells. second.tells (more x) (first.tells x tells);
}

pub adds_none : (v : AuditorView) → AddsStrings v v (λ x. x)
adds_none v = record { signed = refl; are_theirs = refl; tells = λ x tells. tells }

pub adds_same : (a b : AuditorView) (more then : RunStrings → RunStrings) → ((x : RunStrings) → more x ≡ then x) → AddsStrings a b more → AddsStrings a b then
adds_same a b more then same adds = record {
  signed = adds.signed;
  are_theirs = adds.are_theirs;
  tells = λ x tells. subst (TellsOf b) (same x) (adds.tells x tells);
}

-- the strings with no ciphertext more, and with one more
pub none_shown : (r : ℕ) (x : RunStrings) → x ≡ with_ciphers r [] x
none_shown r x = ap (λ (c : List Hashed). let y : RunStrings = record { seeds = x.seeds; ciphers = c; sums = x.sums } in y) (sym (append-nil x.ciphers))

pub one_shown_more : (r i : ℕ) (shown : List ShownCipher) (d : ShownCipher) (x : RunStrings) → i < length shown
    → record (with_ciphers r (take i shown) x) { ciphers = (with_ciphers r (take i shown) x).ciphers ++ hashed_cipher r (get_or shown i d).client.0 (get_or shown i d).cipher ∷ [] }
    ≡ with_ciphers r (take (i + 1) shown) x
one_shown_more r i shown d x within =
    ap (λ (c : List Hashed). let y : RunStrings = record { seeds = x.seeds; ciphers = c; sums = x.sums } in y)
    (append_assoc x.ciphers (map (λ (c : ShownCipher). hashed_cipher r c.client.0 c.cipher) (take i shown)) (hashed_cipher r (get_or shown i d).client.0 (get_or shown i d).cipher ∷ [])
    ∙ ap (λ (c : List Hashed). x.ciphers ++ c) (sym (map_more (λ (c : ShownCipher). hashed_cipher r c.client.0 c.cipher) shown i d within)))

-- bytes that were signed
pub notes : (v : AuditorView) (new : List (List ℕ)) (bytes : List ℕ) → ((x : List ℕ) → Contains new x ↔ (Contains v.signed x ⊎ (x ≡ bytes))) → NotesSigned v (record v { signed = new }) bytes
notes v new bytes h = record { signed = h; are_theirs = refl; tells = λ x tells. record { seeds = tells.seeds; ciphers = tells.ciphers; sums = tells.sums } }

-- whether all strings differ
pub all_differ : (v : AuditorView) (x : RunStrings) → TellsOf v x → (IsTrue v.seeds.differ × IsTrue v.ciphers.differ × IsTrue v.sums.differ) ↔ NoStringsCollide x
all_differ v x tells = (
  λ h. record { seeds = tells.seeds.differ.0 h.0; ciphers = tells.ciphers.differ.0 h.1; sums = tells.sums.differ.0 h.2 },
  λ none. (tells.seeds.differ.1 none.seeds, tells.ciphers.differ.1 none.ciphers, tells.sums.differ.1 none.sums),
)

-- what is shown, by the signer and the statement
pub shows : (r : Result (Unit {0}) NoMemory) (a b : AuditorView) (who whose : SignerId) (s t : Statement) → who ≡ whose → s ≡ t
    → OnOk r (AddsStrings a b (λ x. with_shown x whose t)) → OnOk r (AddsStrings a b (λ x. with_shown x who s))
shows r a b who whose s t same_who same is =
    subst (λ (w : SignerId). OnOk r (AddsStrings a b (λ x. with_shown x w s))) (sym same_who) (subst (λ (z : Statement). OnOk r (AddsStrings a b (λ x. with_shown x whose z))) (sym same) is)
