-- The law of each record.
use Rattle.std.proofs.Common.{◌≡◌, ℕ, zero, suc, ◌+◌, ◌<◌, ◌≤◌, Bool, true, false, cond, eqb, List, [], ◌∷◌, ◌++◌, length, Result, Ok, Err, refl, sym, ap, subst, ◌∙◌, arith, ◌⊎◌, inl, inr}
use Rattle.std.specs.Prelude.{IfOk, IsTrue}
use Rattle.std.proofs.lemmas.Bool.{eqb-true, eq-eqb}
use Rattle.std.proofs.lemmas.List.{append-nil, nil_from_length}
use Rattle.dn_wire.specs.Cursor.{Cursor, start}
use Rattle.dn_wire.specs.declared.ids.SignerId.{SignerId}
use Rattle.dn_wire.specs.declared.ids.SignerId.TheVariants as signers
use Rattle.dn_record_types.specs.declared.body.Body.{Body}
use Rattle.dn_record_types.specs.declared.statement.Statement.{Statement}
use Rattle.dn_record_types.specs.declared.statement.Statement.TheVariants as kinds
use Rattle.dn_record_types.specs.declared.statement.WordTold.{WordTold}
use Rattle.dn_record_types.specs.declared.statement.WordTold.TheVariants.{Included, Late}
use Rattle.dn_record_types.specs.declared.envelope.Envelope.{Envelope}
use Rattle.dn_record_types.specs.declared.payload.Payload.{Payload}
use Rattle.dn_record_types.specs.declared.payload.Payload.TheVariants as payloads
use Rattle.dn_record_types.specs.declared.fault.RecordFault.{RecordFault}
use Rattle.dn_record_types.specs.declared.fault.RecordFault.TheVariants as faults
use Rattle.dn_record_types.specs.Part.{Read, Part, made, ◌⋈◌, led_by, whole, Gives}
use Rattle.dn_record_types.specs.Fields.{read_byte, read_flag, short, word, long, up_to, few, flag, exactly, sized, bits, round, client_field, server_field, slot_field, digest}
use Rattle.dn_record_types.specs.Lists.{rows, several, inside}
use Rattle.dn_wire.specs.Signer.{signer_tag, number_of}
use Rattle.dn_record_types.specs.Records.{entry, inventory, listed, shown_cipher, spell_thin, read_thin, thin_in, body_fields, body, word_told, told_byte, told, submission, receipt, commit, reveal, pad_bits, shown, accusation, rebuttal, concede, read_submission, read_receipt, read_inventory, read_commit, read_reveal, read_sign, read_pad_bits, read_shown, read_accusation, read_rebuttal, read_concede, read_kind, statement_bytes, IsStatement, read_statement, statement, statement_of, body_bytes, IsBody, body_of, tagged_signer, signer, signed, envelope_bytes, IsEnvelope, envelope_of, certificate, challenge, payload_bytes, IsPayload, read_tag, read_cipher, read_certificate, read_challenge, payload_of}
use Rattle.dn_record_types.proofs.Laws.{IsBytes, bind_ok, passed, ok_is, Took, Took-then, Took-nothing, before, behind, IsExact, both, led, like}
use Rattle.dn_record_types.proofs.FieldLaws.{byte_exact, short_exact, word_exact, long_exact, up_to_exact, few_exact, flag_exact, exactly_exact, sized_exact}
use Rattle.dn_record_types.proofs.BitLaws.{bits_exact}
use Rattle.dn_record_types.proofs.ListLaws.{several_exact, IsRow, rows_exact, inside_exact}

pub round_exact : IsExact round
round_exact = like (λ n. record { 0 = n }) (λ r. r.0) long (λ a h. refl) (λ b. refl) long_exact

pub client_exact : IsExact client_field
client_exact = like (λ n. record { 0 = n }) (λ i. i.0) word (λ a h. refl) (λ b. refl) word_exact

server_exact : IsExact server_field
server_exact = like (λ n. record { 0 = n }) (λ j. j.0) word (λ a h. refl) (λ b. refl) word_exact

slot_exact : IsExact slot_field
slot_exact = like (λ n. record { 0 = n }) (λ s. s.0) word (λ a h. refl) (λ b. refl) word_exact

digest_exact : IsExact digest
digest_exact = exactly_exact 32

entry_row : IsRow entry
entry_row = record { key = λ i x. refl; rest = λ i x. refl; again = λ b. refl }

listed_row : IsRow listed
listed_row = record { key = λ i x. refl; rest = λ i x. refl; again = λ b. refl }

cipher_row : IsRow shown_cipher
cipher_row = record { key = λ i x. refl; rest = λ i x. refl; again = λ b. refl }

entries_exact : IsExact (rows entry)
entries_exact = rows_exact entry entry_row client_exact (both digest (sized short) digest_exact (sized_exact short short_exact))

inventory_exact : IsExact inventory
inventory_exact =
    like (λ x. record { r = x.0; prev = x.1.0; entries = x.1.1 }) (λ v. (v.r, (v.prev, v.entries))) (round ⋈ round ⋈ rows entry) (λ a h. refl) (λ b. refl)
    (both round (round ⋈ rows entry) round_exact (both round (rows entry) round_exact entries_exact))

listed_exact : IsExact (rows listed)
listed_exact = rows_exact listed listed_row client_exact (both server_field digest server_exact digest_exact)

ciphers_exact : IsExact (rows shown_cipher)
ciphers_exact = rows_exact shown_cipher cipher_row client_exact bits_exact

digests_exact : IsExact (several (up_to 16) digest)
digests_exact = several_exact (up_to 16) digest (up_to_exact 16 (omega arith)) digest_exact

-- ---- bodies

thin_found : (b : Bool) (version : ℕ) → (b ≡ true → version ≡ 2) → (c : Cursor) (x : Bool) (d : Cursor) → IsBytes c.rest
    → cond b (read_flag c) (Ok (false, c)) ≡ Ok (x, d) → Took c (cond b (flag.spell x) []) d × (IsTrue x → version ≡ 2)
thin_found true version is c x d h e = ((flag_exact.finds c x d h e).0, λ _. is refl)
thin_found false version is c x d h e =
    subst (λ (y : Bool × Cursor). Took c [] y.1 × (IsTrue y.0 → version ≡ 2)) (ok_is (false, c) (x, d) e) (Took-nothing c h, λ t. absurd cc)

thin_known : (b : Bool) (version : ℕ) → (version ≡ 2 → b ≡ true) → (x : Bool) (at : ℕ) (rest : List ℕ) → (IsTrue x → version ≡ 2)
    → cond b (read_flag (before at (cond b (flag.spell x) []) rest)) (Ok (false, before at (cond b (flag.spell x) []) rest)) ≡ Ok (x, behind at (cond b (flag.spell x) []) rest)
thin_known true version is x at rest fits = flag_exact.knows x at rest tt
thin_known false version is true at rest fits = let k = is (fits refl) in absurd cc
thin_known false version is false at rest fits = ap (λ (k : ℕ). Ok (false, record { at = k; rest = rest })) (omega arith)

thin_exact : (version : ℕ) → IsExact (thin_in version)
unfolding spell_thin read_thin
thin_exact version = record {
  finds = thin_found (eqb version 2) version (eqb-true version 2);
  knows = thin_known (eqb version 2) version (eq-eqb version 2);
}

fields_exact : (version : ℕ) → IsExact (body_fields version)
fields_exact version =
    both round (round ⋈ thin_in version ⋈ rows listed ⋈ several (up_to 16) digest ⋈ bits) round_exact
    (both round (thin_in version ⋈ rows listed ⋈ several (up_to 16) digest ⋈ bits) round_exact
    (both (thin_in version) (rows listed ⋈ several (up_to 16) digest ⋈ bits) (thin_exact version)
    (both (rows listed) (several (up_to 16) digest ⋈ bits) listed_exact
    (both (several (up_to 16) digest) bits digests_exact bits_exact))))

pub body_exact : IsExact body
body_exact =
    like
    (λ x. record { version = x.0; r = x.1.0; prev = x.1.1.0; thin = x.1.1.1.0; listed = x.1.1.1.1.0; digests = x.1.1.1.1.1.0; out = x.1.1.1.1.1.1 })
    (λ b. (b.version, (b.r, (b.prev, (b.thin, (b.listed, (b.digests, b.out)))))))
    (led_by (few 2) body_fields) (λ a h. refl) (λ b. refl) (led (few 2) body_fields (few_exact 2 (omega arith)) fields_exact)

told_there : (n : ℕ) → (1 ≤ n) × (n ≤ 2) → told_byte (word_told n) ≡ n
told_there zero h = absurd (omega arith)
told_there (suc zero) h = refl
told_there (suc (suc zero)) h = refl
told_there (suc (suc (suc n))) h = absurd (omega arith)

told_again : (t : WordTold) → word_told (told_byte t) ≡ t
told_again Included = refl
told_again Late = refl

told_exact : IsExact told
told_exact = like word_told told_byte (few 2) told_there told_again (few_exact 2 (omega arith))

submission_exact : IsExact submission
submission_exact = both round (round ⋈ client_field ⋈ digest) round_exact (both round (client_field ⋈ digest) round_exact (both client_field digest client_exact digest_exact))

receipt_exact : IsExact receipt
receipt_exact = both round (client_field ⋈ digest ⋈ told) round_exact (both client_field (digest ⋈ told) client_exact (both digest told digest_exact told_exact))

commit_exact : IsExact commit
commit_exact = both round digest round_exact digest_exact

reveal_exact : IsExact reveal
reveal_exact = both round bits round_exact bits_exact

pad_bits_exact : IsExact pad_bits
pad_bits_exact = both round (word ⋈ bits) round_exact (both word bits word_exact bits_exact)

shown_exact : IsExact shown
shown_exact = both round (bits ⋈ rows shown_cipher) round_exact (both bits (rows shown_cipher) bits_exact ciphers_exact)

accusation_exact : IsExact accusation
accusation_exact = both round (slot_field ⋈ word) round_exact (both slot_field word slot_exact word_exact)

rebuttal_exact : IsExact rebuttal
rebuttal_exact =
    both round (word ⋈ server_field ⋈ exactly 32 ⋈ sized (up_to 65535)) round_exact
    (both word (server_field ⋈ exactly 32 ⋈ sized (up_to 65535)) word_exact
    (both server_field (exactly 32 ⋈ sized (up_to 65535)) server_exact
    (both (exactly 32) (sized (up_to 65535)) (exactly_exact 32) (sized_exact (up_to 65535) (up_to_exact 65535 (omega arith))))))

concede_exact : IsExact concede
concede_exact = both round word round_exact word_exact

-- ---- statements

-- what was taken behind a kind byte
pub record Found (kind : ℕ) (c : Cursor) (x : Statement) (d : Cursor) : Type 0 where
  pub text : List ℕ
  pub spelled : statement_bytes x ≡ kind ∷ text
  pub took : Took c text d
  pub fits : IsStatement x

made_found : {F : Type 0} (p : Part F) (make : F → Statement) (kind : ℕ) → IsExact p → ((f : F) → statement_bytes (make f) ≡ kind ∷ p.spell f) → ((f : F) → p.Fits f → IsStatement (make f))
    → (c : Cursor) (x : Statement) (d : Cursor) → IsBytes c.rest → made make (p.read c) ≡ Ok (x, d) → Found kind c x d
made_found {F} p make kind ep spelled fits c x d h e =
    let a = bind_ok (p.read c) (λ y. Ok (make y.0, y.1)) (x, d) e in
    let t = ep.finds c a.0.0 a.0.1 h a.1 in
    let it : Statement × Cursor = (make a.0.0, a.0.1) in
    subst (λ (y : Statement × Cursor). Found kind c y.0 y.1) (ok_is it (x, d) a.2)
    (record { text = p.spell a.0.0; spelled = spelled a.0.0; took = t.0; fits = fits a.0.0 t.1 })

made_known : {F : Type 0} (p : Part F) (make : F → Statement) → IsExact p → (f : F) (at : ℕ) (rest : List ℕ) → p.Fits f → made make (p.read (before at (p.spell f) rest)) ≡ Ok (make f, behind at (p.spell f) rest)
made_known p make ep f at rest fits = rw (ep.knows f at rest fits) refl

submission_found : (c : Cursor) (x : Statement) (d : Cursor) → IsBytes c.rest → read_submission c ≡ Ok (x, d) → Found 1 c x d
unfolding read_submission statement_bytes
submission_found = made_found submission (λ x. kinds.Submission x.0 x.1.0 x.1.1.0 x.1.1.1) 1 submission_exact (λ f. refl) (λ f h. h)

receipt_found : (c : Cursor) (x : Statement) (d : Cursor) → IsBytes c.rest → read_receipt c ≡ Ok (x, d) → Found 2 c x d
unfolding read_receipt statement_bytes
receipt_found = made_found receipt (λ x. kinds.Receipt x.0 x.1.0 x.1.1.0 x.1.1.1) 2 receipt_exact (λ f. refl) (λ f h. h)

inventory_found : (c : Cursor) (x : Statement) (d : Cursor) → IsBytes c.rest → read_inventory c ≡ Ok (x, d) → Found 3 c x d
unfolding read_inventory statement_bytes
inventory_found = made_found inventory (λ x. kinds.Inventory x) 3 inventory_exact (λ f. refl) (λ f h. h)

commit_found : (c : Cursor) (x : Statement) (d : Cursor) → IsBytes c.rest → read_commit c ≡ Ok (x, d) → Found 4 c x d
unfolding read_commit statement_bytes
commit_found = made_found commit (λ x. kinds.Commit x.0 x.1) 4 commit_exact (λ f. refl) (λ f h. h)

reveal_found : (c : Cursor) (x : Statement) (d : Cursor) → IsBytes c.rest → read_reveal c ≡ Ok (x, d) → Found 5 c x d
unfolding read_reveal statement_bytes
reveal_found = made_found reveal (λ x. kinds.Reveal x.0 x.1) 5 reveal_exact (λ f. refl) (λ f h. h)

sign_found : (c : Cursor) (x : Statement) (d : Cursor) → IsBytes c.rest → read_sign c ≡ Ok (x, d) → Found 6 c x d
unfolding read_sign statement_bytes
sign_found = made_found body (λ x. kinds.Sign x) 6 body_exact (λ f. refl) (λ f h. h)

pad_bits_found : (c : Cursor) (x : Statement) (d : Cursor) → IsBytes c.rest → read_pad_bits c ≡ Ok (x, d) → Found 7 c x d
unfolding read_pad_bits statement_bytes
pad_bits_found = made_found pad_bits (λ x. kinds.PadBits x.0 x.1.0 x.1.1) 7 pad_bits_exact (λ f. refl) (λ f h. h)

shown_found : (c : Cursor) (x : Statement) (d : Cursor) → IsBytes c.rest → read_shown c ≡ Ok (x, d) → Found 8 c x d
unfolding read_shown statement_bytes
shown_found = made_found shown (λ x. kinds.Shown x.0 x.1.0 x.1.1) 8 shown_exact (λ f. refl) (λ f h. h)

accusation_found : (c : Cursor) (x : Statement) (d : Cursor) → IsBytes c.rest → read_accusation c ≡ Ok (x, d) → Found 9 c x d
unfolding read_accusation statement_bytes
accusation_found = made_found accusation (λ x. kinds.Accusation x.0 x.1.0 x.1.1) 9 accusation_exact (λ f. refl) (λ f h. h)

rebuttal_found : (c : Cursor) (x : Statement) (d : Cursor) → IsBytes c.rest → read_rebuttal c ≡ Ok (x, d) → Found 10 c x d
unfolding read_rebuttal statement_bytes
rebuttal_found = made_found rebuttal (λ x. kinds.Rebuttal x.0 x.1.0 x.1.1.0 x.1.1.1.0 x.1.1.1.1) 10 rebuttal_exact (λ f. refl) (λ f h. h)

concede_found : (c : Cursor) (x : Statement) (d : Cursor) → IsBytes c.rest → read_concede c ≡ Ok (x, d) → Found 11 c x d
unfolding read_concede statement_bytes
concede_found = made_found concede (λ x. kinds.Concede x.0 x.1) 11 concede_exact (λ f. refl) (λ f h. h)

-- which way a test went
way : {A : Type 0} (b : Bool) (r s : Read A) (y : A × Cursor) → cond b r s ≡ Ok y → ((b ≡ true) × (r ≡ Ok y)) ⊎ ((b ≡ false) × (s ≡ Ok y))
way true r s y e = inl (refl, e)
way false r s y e = inr (refl, e)

abbrev no_kind : ℕ → Read Statement
no_kind kind = Err (faults.Kind kind)

none_found : (kind : ℕ) (c : Cursor) (x : Statement) (d : Cursor) → no_kind kind ≡ Ok (x, d) → Found kind c x d
none_found kind c x d e = absurd cc

abbrev from_11 : ℕ → Cursor → Read Statement
from_11 kind c = cond (eqb kind 11) (read_concede c) (no_kind kind)

from_11_found : (kind : ℕ) (c : Cursor) (x : Statement) (d : Cursor) → IsBytes c.rest → from_11 kind c ≡ Ok (x, d) → Found kind c x d
from_11_found kind c x d h e =
    elim (way (eqb kind 11) (read_concede c) (no_kind kind) (x, d) e) [
      | inl y ↦ subst (λ (k : ℕ). Found k c x d) (sym (eqb-true kind 11 y.0)) (concede_found c x d h y.1)
      | inr y ↦ none_found kind c x d y.1
    ]

abbrev from_10 : ℕ → Cursor → Read Statement
from_10 kind c = cond (eqb kind 10) (read_rebuttal c) (from_11 kind c)

from_10_found : (kind : ℕ) (c : Cursor) (x : Statement) (d : Cursor) → IsBytes c.rest → from_10 kind c ≡ Ok (x, d) → Found kind c x d
from_10_found kind c x d h e =
    elim (way (eqb kind 10) (read_rebuttal c) (from_11 kind c) (x, d) e) [
      | inl y ↦ subst (λ (k : ℕ). Found k c x d) (sym (eqb-true kind 10 y.0)) (rebuttal_found c x d h y.1)
      | inr y ↦ from_11_found kind c x d h y.1
    ]

abbrev from_9 : ℕ → Cursor → Read Statement
from_9 kind c = cond (eqb kind 9) (read_accusation c) (from_10 kind c)

from_9_found : (kind : ℕ) (c : Cursor) (x : Statement) (d : Cursor) → IsBytes c.rest → from_9 kind c ≡ Ok (x, d) → Found kind c x d
from_9_found kind c x d h e =
    elim (way (eqb kind 9) (read_accusation c) (from_10 kind c) (x, d) e) [
      | inl y ↦ subst (λ (k : ℕ). Found k c x d) (sym (eqb-true kind 9 y.0)) (accusation_found c x d h y.1)
      | inr y ↦ from_10_found kind c x d h y.1
    ]

abbrev from_8 : ℕ → Cursor → Read Statement
from_8 kind c = cond (eqb kind 8) (read_shown c) (from_9 kind c)

from_8_found : (kind : ℕ) (c : Cursor) (x : Statement) (d : Cursor) → IsBytes c.rest → from_8 kind c ≡ Ok (x, d) → Found kind c x d
from_8_found kind c x d h e =
    elim (way (eqb kind 8) (read_shown c) (from_9 kind c) (x, d) e) [
      | inl y ↦ subst (λ (k : ℕ). Found k c x d) (sym (eqb-true kind 8 y.0)) (shown_found c x d h y.1)
      | inr y ↦ from_9_found kind c x d h y.1
    ]

abbrev from_7 : ℕ → Cursor → Read Statement
from_7 kind c = cond (eqb kind 7) (read_pad_bits c) (from_8 kind c)

from_7_found : (kind : ℕ) (c : Cursor) (x : Statement) (d : Cursor) → IsBytes c.rest → from_7 kind c ≡ Ok (x, d) → Found kind c x d
from_7_found kind c x d h e =
    elim (way (eqb kind 7) (read_pad_bits c) (from_8 kind c) (x, d) e) [
      | inl y ↦ subst (λ (k : ℕ). Found k c x d) (sym (eqb-true kind 7 y.0)) (pad_bits_found c x d h y.1)
      | inr y ↦ from_8_found kind c x d h y.1
    ]

abbrev from_6 : ℕ → Cursor → Read Statement
from_6 kind c = cond (eqb kind 6) (read_sign c) (from_7 kind c)

from_6_found : (kind : ℕ) (c : Cursor) (x : Statement) (d : Cursor) → IsBytes c.rest → from_6 kind c ≡ Ok (x, d) → Found kind c x d
from_6_found kind c x d h e =
    elim (way (eqb kind 6) (read_sign c) (from_7 kind c) (x, d) e) [
      | inl y ↦ subst (λ (k : ℕ). Found k c x d) (sym (eqb-true kind 6 y.0)) (sign_found c x d h y.1)
      | inr y ↦ from_7_found kind c x d h y.1
    ]

abbrev from_5 : ℕ → Cursor → Read Statement
from_5 kind c = cond (eqb kind 5) (read_reveal c) (from_6 kind c)

from_5_found : (kind : ℕ) (c : Cursor) (x : Statement) (d : Cursor) → IsBytes c.rest → from_5 kind c ≡ Ok (x, d) → Found kind c x d
from_5_found kind c x d h e =
    elim (way (eqb kind 5) (read_reveal c) (from_6 kind c) (x, d) e) [
      | inl y ↦ subst (λ (k : ℕ). Found k c x d) (sym (eqb-true kind 5 y.0)) (reveal_found c x d h y.1)
      | inr y ↦ from_6_found kind c x d h y.1
    ]

abbrev from_4 : ℕ → Cursor → Read Statement
from_4 kind c = cond (eqb kind 4) (read_commit c) (from_5 kind c)

from_4_found : (kind : ℕ) (c : Cursor) (x : Statement) (d : Cursor) → IsBytes c.rest → from_4 kind c ≡ Ok (x, d) → Found kind c x d
from_4_found kind c x d h e =
    elim (way (eqb kind 4) (read_commit c) (from_5 kind c) (x, d) e) [
      | inl y ↦ subst (λ (k : ℕ). Found k c x d) (sym (eqb-true kind 4 y.0)) (commit_found c x d h y.1)
      | inr y ↦ from_5_found kind c x d h y.1
    ]

abbrev from_3 : ℕ → Cursor → Read Statement
from_3 kind c = cond (eqb kind 3) (read_inventory c) (from_4 kind c)

from_3_found : (kind : ℕ) (c : Cursor) (x : Statement) (d : Cursor) → IsBytes c.rest → from_3 kind c ≡ Ok (x, d) → Found kind c x d
from_3_found kind c x d h e =
    elim (way (eqb kind 3) (read_inventory c) (from_4 kind c) (x, d) e) [
      | inl y ↦ subst (λ (k : ℕ). Found k c x d) (sym (eqb-true kind 3 y.0)) (inventory_found c x d h y.1)
      | inr y ↦ from_4_found kind c x d h y.1
    ]

abbrev from_2 : ℕ → Cursor → Read Statement
from_2 kind c = cond (eqb kind 2) (read_receipt c) (from_3 kind c)

from_2_found : (kind : ℕ) (c : Cursor) (x : Statement) (d : Cursor) → IsBytes c.rest → from_2 kind c ≡ Ok (x, d) → Found kind c x d
from_2_found kind c x d h e =
    elim (way (eqb kind 2) (read_receipt c) (from_3 kind c) (x, d) e) [
      | inl y ↦ subst (λ (k : ℕ). Found k c x d) (sym (eqb-true kind 2 y.0)) (receipt_found c x d h y.1)
      | inr y ↦ from_3_found kind c x d h y.1
    ]

abbrev from_1 : ℕ → Cursor → Read Statement
from_1 kind c = cond (eqb kind 1) (read_submission c) (from_2 kind c)

from_1_found : (kind : ℕ) (c : Cursor) (x : Statement) (d : Cursor) → IsBytes c.rest → from_1 kind c ≡ Ok (x, d) → Found kind c x d
from_1_found kind c x d h e =
    elim (way (eqb kind 1) (read_submission c) (from_2 kind c) (x, d) e) [
      | inl y ↦ subst (λ (k : ℕ). Found k c x d) (sym (eqb-true kind 1 y.0)) (submission_found c x d h y.1)
      | inr y ↦ from_2_found kind c x d h y.1
    ]

kind_found : (kind : ℕ) (c : Cursor) (x : Statement) (d : Cursor) → IsBytes c.rest → read_kind kind c ≡ Ok (x, d) → Found kind c x d
unfolding read_kind
kind_found = from_1_found

kind_known : (kind : ℕ) → kind < 256 → (text : List ℕ) (x : Statement) (at : ℕ) (rest : List ℕ) → ((place : ℕ) → read_kind kind (before place text rest) ≡ Ok (x, behind place text rest))
    → read_statement (before at (kind ∷ text) rest) ≡ Ok (x, behind at (kind ∷ text) rest)
unfolding read_statement
kind_known kind small text x at rest known =
    rw (byte_exact.knows kind at (text ++ rest) small, known (at + 1)) (ap (λ (k : ℕ). Ok (x, record { at = k; rest = rest })) (let e : (at + 1) + length text ≡ at + suc (length text) = omega arith in e))

statement_knows : (x : Statement) (at : ℕ) (rest : List ℕ) → IsStatement x → read_statement (before at (statement_bytes x) rest) ≡ Ok (x, behind at (statement_bytes x) rest)
unfolding statement_bytes read_kind read_submission read_receipt read_inventory read_commit read_reveal read_sign read_pad_bits read_shown read_accusation read_rebuttal read_concede
statement_knows (kinds.Submission r prev i d) at rest fits = kind_known 1 (omega arith) (submission.spell (r, (prev, (i, d)))) (kinds.Submission r prev i d) at rest (λ place. made_known submission (λ x. kinds.Submission x.0 x.1.0 x.1.1.0 x.1.1.1) submission_exact (r, (prev, (i, d))) place rest fits)
statement_knows (kinds.Receipt r i d t) at rest fits = kind_known 2 (omega arith) (receipt.spell (r, (i, (d, t)))) (kinds.Receipt r i d t) at rest (λ place. made_known receipt (λ x. kinds.Receipt x.0 x.1.0 x.1.1.0 x.1.1.1) receipt_exact (r, (i, (d, t))) place rest fits)
statement_knows (kinds.Inventory v) at rest fits = kind_known 3 (omega arith) (inventory.spell v) (kinds.Inventory v) at rest (λ place. made_known inventory (λ x. kinds.Inventory x) inventory_exact v place rest fits)
statement_knows (kinds.Commit r d) at rest fits = kind_known 4 (omega arith) (commit.spell (r, d)) (kinds.Commit r d) at rest (λ place. made_known commit (λ x. kinds.Commit x.0 x.1) commit_exact (r, d) place rest fits)
statement_knows (kinds.Reveal r s) at rest fits = kind_known 5 (omega arith) (reveal.spell (r, s)) (kinds.Reveal r s) at rest (λ place. made_known reveal (λ x. kinds.Reveal x.0 x.1) reveal_exact (r, s) place rest fits)
statement_knows (kinds.Sign b) at rest fits = kind_known 6 (omega arith) (body.spell b) (kinds.Sign b) at rest (λ place. made_known body (λ x. kinds.Sign x) body_exact b place rest fits)
statement_knows (kinds.PadBits r k bs) at rest fits = kind_known 7 (omega arith) (pad_bits.spell (r, (k, bs))) (kinds.PadBits r k bs) at rest (λ place. made_known pad_bits (λ x. kinds.PadBits x.0 x.1.0 x.1.1) pad_bits_exact (r, (k, bs)) place rest fits)
statement_knows (kinds.Shown r s xs) at rest fits = kind_known 8 (omega arith) (shown.spell (r, (s, xs))) (kinds.Shown r s xs) at rest (λ place. made_known shown (λ x. kinds.Shown x.0 x.1.0 x.1.1) shown_exact (r, (s, xs)) place rest fits)
statement_knows (kinds.Accusation r s k) at rest fits = kind_known 9 (omega arith) (accusation.spell (r, (s, k))) (kinds.Accusation r s k) at rest (λ place. made_known accusation (λ x. kinds.Accusation x.0 x.1.0 x.1.1) accusation_exact (r, (s, k)) place rest fits)
statement_knows (kinds.Rebuttal r k j seed e) at rest fits = kind_known 10 (omega arith) (rebuttal.spell (r, (k, (j, (seed, e))))) (kinds.Rebuttal r k j seed e) at rest (λ place. made_known rebuttal (λ x. kinds.Rebuttal x.0 x.1.0 x.1.1.0 x.1.1.1.0 x.1.1.1.1) rebuttal_exact (r, (k, (j, (seed, e)))) place rest fits)
statement_knows (kinds.Concede r k) at rest fits = kind_known 11 (omega arith) (concede.spell (r, k)) (kinds.Concede r k) at rest (λ place. made_known concede (λ x. kinds.Concede x.0 x.1) concede_exact (r, k) place rest fits)

pub statement_exact : IsExact statement
unfolding read_statement
statement_exact = record {
  finds = λ c x d h e.
      let a = bind_ok (read_byte c) (λ kind. read_kind kind.0 kind.1) (x, d) e in
      let first = byte_exact.finds c a.0.0 a.0.1 h a.1 in
      let f = kind_found a.0.0 a.0.1 x d first.0.bytes a.2 in
      (subst (λ (t : List ℕ). Took c t d) (sym f.spelled) (Took-then c (a.0.0 ∷ []) a.0.1 f.text d first.0 f.took), f.fits);
  knows = statement_knows;
}

-- ---- all of the bytes

whole_finds : {A : Type 0} (p : Part A) → IsExact p → (c : Cursor) (x : A) → IsBytes c.rest → whole p c ≡ Ok x → p.Fits x × (c.rest ≡ p.spell x)
unfolding whole
whole_finds {A} p ep c x h e =
    let a = bind_ok (p.read c) (λ y. cond (eqb (length y.1.rest) 0) (Ok y.0) (Err (faults.Trailing y.1.at))) x e in
    let g = passed (eqb (length a.0.1.rest) 0) (faults.Trailing a.0.1.at) a.0.0 x a.2 in
    let t = ep.finds c a.0.0 a.0.1 h a.1 in
    let nothing : a.0.1.rest ≡ [] = nil_from_length a.0.1.rest (eqb-true _ _ g.0) in
    subst (λ (y : A). p.Fits y × (c.rest ≡ p.spell y)) g.1
    (t.1, t.0.parts ∙ ap (λ (r : List ℕ). p.spell a.0.0 ++ r) nothing ∙ append-nil (p.spell a.0.0))

whole_knows : {A : Type 0} (p : Part A) → IsExact p → (x : A) (at : ℕ) → p.Fits x → whole p (record { at = at; rest = p.spell x }) ≡ Ok x
unfolding whole
whole_knows p ep x at fits =
    let alone : p.read (record { at = at; rest = p.spell x }) ≡ Ok (x, record { at = at + length (p.spell x); rest = [] }) =
    ap (λ (t : List ℕ). p.read (record { at = at; rest = t })) (sym (append-nil (p.spell x))) ∙ ep.knows x at [] fits in
    rw alone refl

pub statement_found : (bytes : List ℕ) → IsBytes bytes → (x : Statement) → statement_of bytes ≡ Ok x → IsStatement x × (bytes ≡ statement_bytes x)
unfolding statement_of
statement_found bytes h x e = whole_finds statement statement_exact (start bytes) x h e

pub statement_again : (x : Statement) → IsStatement x → statement_of (statement_bytes x) ≡ Ok x
unfolding statement_of
statement_again x fits = whole_knows statement statement_exact x 0 fits

pub body_found : (bytes : List ℕ) → IsBytes bytes → (x : Body) → body_of bytes ≡ Ok x → IsBody x × (bytes ≡ body_bytes x)
unfolding body_of body_bytes
body_found bytes h x e = whole_finds body body_exact (start bytes) x h e

pub body_again : (x : Body) → IsBody x → body_of (body_bytes x) ≡ Ok x
unfolding body_of body_bytes
body_again x fits = whole_knows body body_exact x 0 fits

-- ---- envelopes

abbrev numbers : SignerId → ℕ × ℕ
numbers who = (signer_tag who, number_of who)

signer_there_at : (t n : ℕ) → (1 ≤ t) × (t ≤ 3) → numbers (tagged_signer (t, n)) ≡ (t, n)
signer_there_at zero n h = absurd (omega arith)
signer_there_at (suc zero) n h = refl
signer_there_at (suc (suc zero)) n h = refl
signer_there_at (suc (suc (suc zero))) n h = refl
signer_there_at (suc (suc (suc (suc t)))) n h = absurd (omega arith)

signer_again : (s : SignerId) → tagged_signer (numbers s) ≡ s
signer_again (signers.Client i) = refl
signer_again (signers.Server j) = refl
signer_again (signers.Slot s) = refl

signer_exact : IsExact signer
signer_exact = like tagged_signer numbers (few 3 ⋈ word) (λ a h. signer_there_at a.0 a.1 h.0) signer_again (both (few 3) word (few_exact 3 (omega arith)) word_exact)

signed_exact : IsExact signed
signed_exact = both signer (inside (up_to 16777216) statement) signer_exact (inside_exact (up_to 16777216) statement (up_to_exact 16777216 (omega arith)) statement_exact)

pub envelope_found : (bytes : List ℕ) → IsBytes bytes → (x : Envelope) → envelope_of bytes ≡ Ok x → IsEnvelope x × (bytes ≡ envelope_bytes x)
unfolding envelope_of envelope_bytes
envelope_found bytes h x e =
    let a = bind_ok (signed.read (start bytes)) (λ y. Ok (record { signer = y.0.0; statement = y.0.1; signature = y.1.rest })) x e in
    let t = signed_exact.finds (start bytes) a.0.0 a.0.1 h a.1 in
    subst (λ (y : Envelope). IsEnvelope y × (bytes ≡ signed.spell (y.signer, y.statement) ++ y.signature)) (ok_is (record { signer = a.0.0.0; statement = a.0.0.1; signature = a.0.1.rest }) x a.2) (t.1, t.0.parts)

pub envelope_again : (x : Envelope) → IsEnvelope x → envelope_of (envelope_bytes x) ≡ Ok x
unfolding envelope_of envelope_bytes
envelope_again x fits = rw (signed_exact.knows (x.signer, x.statement) 0 x.signature fits) refl

-- ---- payloads

certificate_exact : IsExact certificate
certificate_exact = both (inside word body) (several word (sized short)) (inside_exact word body word_exact body_exact) (several_exact word (sized short) word_exact (sized_exact short short_exact))

challenge_exact : IsExact challenge
challenge_exact =
    both round (word ⋈ several (up_to 16) (sized word)) round_exact
    (both word (several (up_to 16) (sized word)) word_exact (several_exact (up_to 16) (sized word) (up_to_exact 16 (omega arith)) (sized_exact word word_exact)))

-- what stands behind a tag
pub record Held (tag : ℕ) (text : List ℕ) (x : Payload) : Type 0 where
  pub spelled : payload_bytes x ≡ tag ∷ text
  pub fits : IsPayload x

cipher_held : (c : Cursor) (x : Payload) → IsBytes c.rest → read_cipher c ≡ Ok x → Held 1 c.rest x
unfolding read_cipher payload_bytes
cipher_held c x h e =
    let a = bind_ok (bits.read c) (λ y. Ok (payloads.Submission y.0 y.1.rest)) x e in
    let t = bits_exact.finds c a.0.0 a.0.1 h a.1 in
    subst (λ (y : Payload). Held 1 c.rest y) (ok_is (payloads.Submission a.0.0 a.0.1.rest) x a.2)
    (record { spelled = ap (λ (l : List ℕ). 1 ∷ l) (sym t.0.parts); fits = t.1 })

certificate_held : (c : Cursor) (x : Payload) → IsBytes c.rest → read_certificate c ≡ Ok x → Held 3 c.rest x
unfolding read_certificate payload_bytes
certificate_held c x h e =
    let a = bind_ok (whole certificate c) (λ y. Ok (payloads.Certificate y.0 y.1)) x e in
    let t = whole_finds certificate certificate_exact c a.0 h a.1 in
    subst (λ (y : Payload). Held 3 c.rest y) (ok_is (payloads.Certificate a.0.0 a.0.1) x a.2)
    (record { spelled = ap (λ (l : List ℕ). 3 ∷ l) (sym t.1); fits = t.0 })

challenge_held : (c : Cursor) (x : Payload) → IsBytes c.rest → read_challenge c ≡ Ok x → Held 4 c.rest x
unfolding read_challenge payload_bytes
challenge_held c x h e =
    let a = bind_ok (whole challenge c) (λ y. Ok (payloads.Challenge y.0 y.1.0 y.1.1)) x e in
    let t = whole_finds challenge challenge_exact c a.0 h a.1 in
    subst (λ (y : Payload). Held 4 c.rest y) (ok_is (payloads.Challenge a.0.0 a.0.1.0 a.0.1.1) x a.2)
    (record { spelled = ap (λ (l : List ℕ). 4 ∷ l) (sym t.1); fits = t.0 })

abbrev plain : Cursor → Result Payload RecordFault
plain c = Ok (payloads.Plain c.rest)

plain_held : (c : Cursor) (x : Payload) → plain c ≡ Ok x → Held 2 c.rest x
unfolding payload_bytes
plain_held c x e = subst (λ (y : Payload). Held 2 c.rest y) (ok_is (payloads.Plain c.rest) x e) (record { spelled = refl; fits = tt })

turn : (b : Bool) (r s : Result Payload RecordFault) (y : Payload) → cond b r s ≡ Ok y → ((b ≡ true) × (r ≡ Ok y)) ⊎ ((b ≡ false) × (s ≡ Ok y))
turn true r s y e = inl (refl, e)
turn false r s y e = inr (refl, e)

abbrev no_tag : ℕ → Result Payload RecordFault
no_tag tag = Err (faults.Kind tag)

none_held : (tag : ℕ) (c : Cursor) (x : Payload) → no_tag tag ≡ Ok x → Held tag c.rest x
none_held tag c x e = absurd cc

abbrev tag_4 : ℕ → Cursor → Result Payload RecordFault
tag_4 tag c = cond (eqb tag 4) (read_challenge c) (no_tag tag)

abbrev tag_3 : ℕ → Cursor → Result Payload RecordFault
tag_3 tag c = cond (eqb tag 3) (read_certificate c) (tag_4 tag c)

abbrev tag_2 : ℕ → Cursor → Result Payload RecordFault
tag_2 tag c = cond (eqb tag 2) (plain c) (tag_3 tag c)

from_tag_4 : (tag : ℕ) (c : Cursor) (x : Payload) → IsBytes c.rest → tag_4 tag c ≡ Ok x → Held tag c.rest x
from_tag_4 tag c x h e =
    elim (turn (eqb tag 4) (read_challenge c) (no_tag tag) x e) [
      | inl y ↦ subst (λ (t : ℕ). Held t c.rest x) (sym (eqb-true tag 4 y.0)) (challenge_held c x h y.1)
      | inr y ↦ none_held tag c x y.1
    ]

from_tag_3 : (tag : ℕ) (c : Cursor) (x : Payload) → IsBytes c.rest → tag_3 tag c ≡ Ok x → Held tag c.rest x
from_tag_3 tag c x h e =
    elim (turn (eqb tag 3) (read_certificate c) (tag_4 tag c) x e) [
      | inl y ↦ subst (λ (t : ℕ). Held t c.rest x) (sym (eqb-true tag 3 y.0)) (certificate_held c x h y.1)
      | inr y ↦ from_tag_4 tag c x h y.1
    ]

from_tag_2 : (tag : ℕ) (c : Cursor) (x : Payload) → IsBytes c.rest → tag_2 tag c ≡ Ok x → Held tag c.rest x
from_tag_2 tag c x h e =
    elim (turn (eqb tag 2) (plain c) (tag_3 tag c) x e) [
      | inl y ↦ subst (λ (t : ℕ). Held t c.rest x) (sym (eqb-true tag 2 y.0)) (plain_held c x y.1)
      | inr y ↦ from_tag_3 tag c x h y.1
    ]

tag_held : (tag : ℕ) (c : Cursor) (x : Payload) → IsBytes c.rest → read_tag tag c ≡ Ok x → Held tag c.rest x
unfolding read_tag
tag_held tag c x h e =
    elim (turn (eqb tag 1) (read_cipher c) (tag_2 tag c) x e) [
      | inl y ↦ subst (λ (t : ℕ). Held t c.rest x) (sym (eqb-true tag 1 y.0)) (cipher_held c x h y.1)
      | inr y ↦ from_tag_2 tag c x h y.1
    ]

pub payload_found : (bytes : List ℕ) → IsBytes bytes → (x : Payload) → payload_of bytes ≡ Ok x → IsPayload x × (bytes ≡ payload_bytes x)
unfolding payload_of
payload_found bytes h x e =
    let a = bind_ok (read_byte (start bytes)) (λ tag. read_tag tag.0 tag.1) x e in
    let first = byte_exact.finds (start bytes) a.0.0 a.0.1 h a.1 in
    let held = tag_held a.0.0 a.0.1 x first.0.bytes a.2 in
    (held.fits, first.0.parts ∙ sym held.spelled)

tag_known : (tag : ℕ) → tag < 256 → (text : List ℕ) (x : Payload) → ((at : ℕ) → read_tag tag (record { at = at; rest = text }) ≡ Ok x) → payload_of (tag ∷ text) ≡ Ok x
unfolding payload_of
tag_known tag small text x known = rw (byte_exact.knows tag 0 text small, known 1) refl

pub payload_again : (x : Payload) → IsPayload x → payload_of (payload_bytes x) ≡ Ok x
unfolding payload_bytes read_tag read_cipher read_certificate read_challenge
payload_again (payloads.Submission cipher e) fits = tag_known 1 (omega arith) (bits.spell cipher ++ e) (payloads.Submission cipher e) (λ at. rw (bits_exact.knows cipher at e fits) refl)
payload_again (payloads.Plain e) fits = tag_known 2 (omega arith) e (payloads.Plain e) (λ at. refl)
payload_again (payloads.Certificate b signatures) fits = tag_known 3 (omega arith) (certificate.spell (b, signatures)) (payloads.Certificate b signatures) (λ at. rw (whole_knows certificate certificate_exact (b, signatures) at fits) refl)
payload_again (payloads.Challenge r k envelopes) fits = tag_known 4 (omega arith) (challenge.spell (r, (k, envelopes))) (payloads.Challenge r k envelopes) (λ at. rw (whole_knows challenge challenge_exact (r, (k, envelopes)) at fits) refl)

-- ---- what a call answered

pub found_by : {A : Type 0} (r : Result A RecordFault) (read : Result A RecordFault) (P : A → Type 0) → Gives r read → ((x : A) → read ≡ Ok x → P x) → IfOk r P
found_by (Ok x) read P given p = p x given
found_by (Err f) read P given p = tt

-- ---- one spelling

once : {A : Type 0} (spell : A → List ℕ) (read : List ℕ → Result A RecordFault) (Fits : A → Type 0) → ((x : A) → Fits x → read (spell x) ≡ Ok x) → (x y : A) → Fits x → Fits y → spell x ≡ spell y → x ≡ y
once spell read Fits again x y fx fy e = ok_is x y (sym (again x fx) ∙ ap read e ∙ again y fy)

pub statement_once : (x y : Statement) → IsStatement x → IsStatement y → statement_bytes x ≡ statement_bytes y → x ≡ y
statement_once = once statement_bytes statement_of IsStatement statement_again

pub body_once : (x y : Body) → IsBody x → IsBody y → body_bytes x ≡ body_bytes y → x ≡ y
body_once = once body_bytes body_of IsBody body_again

pub envelope_once : (x y : Envelope) → IsEnvelope x → IsEnvelope y → envelope_bytes x ≡ envelope_bytes y → x ≡ y
envelope_once = once envelope_bytes envelope_of IsEnvelope envelope_again

pub payload_once : (x y : Payload) → IsPayload x → IsPayload y → payload_bytes x ≡ payload_bytes y → x ≡ y
payload_once = once payload_bytes payload_of IsPayload payload_again
