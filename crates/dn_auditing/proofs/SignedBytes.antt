-- The bytes that are signed tell who signs which statement.
use Rattle.std.proofs.Common.{◌≡◌, ℕ, ◌<◌, List, [], ◌∷◌, ◌++◌, length, refl, sym, ap, ◌∙◌, arith}
use Rattle.std.specs.Prelude.{◌^◌, codes}
use Rattle.std.specs.Int.{w32, to_be_bytes, from_be_bytes}
use Rattle.std.proofs.lemmas.Nat.{from_be_bytes-to_be_bytes_4}
use Rattle.dn_wire.specs.declared.ids.ClientId.{ClientId}
use Rattle.dn_wire.specs.declared.ids.ServerId.{ServerId}
use Rattle.dn_wire.specs.declared.ids.SlotId.{SlotId}
use Rattle.dn_wire.specs.declared.ids.SignerId.{SignerId}
use Rattle.dn_wire.specs.declared.ids.SignerId.TheVariants.{Client, Server, Slot}
use Rattle.dn_wire.specs.Signer.{signer_tag, number_of, signer_bytes}
use Rattle.dn_hash.proofs.InputLemmas.{behind_tag}
use Rattle.dn_record_types.specs.declared.statement.Statement.{Statement}
use Rattle.dn_record_types.proofs.RecordLaws.{statement_once}
use Rattle.dn_records.specs.Records.{statement_bytes}
use Rattle.dn_roster.specs.Roster.{signed_bytes_of}
use Rattle.dn_seal.specs.Signer.{CanSign}

both_ways : (xs ys zs : List ℕ) → (xs ++ ys) ++ zs ≡ xs ++ (ys ++ zs)
both_ways [] ys zs = refl
both_ways (x ∷ xs) ys zs = ap (λ ws. x ∷ ws) (both_ways xs ys zs)

two_parts : (a b x y : List ℕ) → length a ≡ length b → a ++ x ≡ b ++ y → (a ≡ b) × (x ≡ y)
two_parts [] [] x y h e = (refl, e)
two_parts [] (q ∷ b) x y h e = absurd (omega arith)
two_parts (p ∷ a) [] x y h e = absurd (omega arith)
two_parts (p ∷ a) (q ∷ b) x y h e =
    let first : p ≡ q = cc in
    let others : a ++ x ≡ b ++ y = cc in
    let r = two_parts a b x y (omega arith) others in
    (λ i. first i ∷ r.0 i, r.1)

same_number : (m n : ℕ) → m < 2 ^ 32 → n < 2 ^ 32 → to_be_bytes w32 m ≡ to_be_bytes w32 n → m ≡ n
same_number m n h g e = sym (from_be_bytes-to_be_bytes_4 m h) ∙ ap (from_be_bytes w32) e ∙ from_be_bytes-to_be_bytes_4 n g

same_signer : (a b : SignerId) → signer_tag a ≡ signer_tag b → number_of a ≡ number_of b → a ≡ b
same_signer (Client i) (Client k) t n = let c : ℕ → ClientId = λ m. record { 0 = m } in ap (λ m. Client (c m)) n
same_signer (Server i) (Server k) t n = let c : ℕ → ServerId = λ m. record { 0 = m } in ap (λ m. Server (c m)) n
same_signer (Slot i) (Slot k) t n = let c : ℕ → SlotId = λ m. record { 0 = m } in ap (λ m. Slot (c m)) n
same_signer (Client i) (Server k) t n = absurd (omega (arith, t))
same_signer (Client i) (Slot k) t n = absurd (omega (arith, t))
same_signer (Server i) (Client k) t n = absurd (omega (arith, t))
same_signer (Server i) (Slot k) t n = absurd (omega (arith, t))
same_signer (Slot i) (Client k) t n = absurd (omega (arith, t))
same_signer (Slot i) (Server k) t n = absurd (omega (arith, t))

first_same : (x y : ℕ) (xs ys : List ℕ) → x ∷ xs ≡ y ∷ ys → (x ≡ y) × (xs ≡ ys)
first_same x y xs ys e = (cc, cc)

-- behind a signer's bytes
behind_signer : (a b : SignerId) (x y : List ℕ) → number_of a < 2 ^ 32 → number_of b < 2 ^ 32 → signer_bytes a ++ x ≡ signer_bytes b ++ y → (a ≡ b) × (x ≡ y)
behind_signer a b x y low_a low_b e =
    let first = first_same (signer_tag a) (signer_tag b) (to_be_bytes w32 (number_of a) ++ x) (to_be_bytes w32 (number_of b) ++ y) e in
    let parts = two_parts (to_be_bytes w32 (number_of a)) (to_be_bytes w32 (number_of b)) x y refl first.1 in
    (same_signer a b first.0 (same_number (number_of a) (number_of b) low_a low_b parts.0), parts.1)

pub signed_once : (digest : List ℕ) (a b : SignerId) (s t : Statement) → CanSign a s → CanSign b t
    → signed_bytes_of digest a (statement_bytes s) ≡ signed_bytes_of digest b (statement_bytes t) → (a ≡ b) × (s ≡ t)
unfolding signed_bytes_of
signed_once digest a b s t can_a can_b e =
    let front = codes "dnstmt" ++ digest in
    let rest : signer_bytes a ++ statement_bytes s ≡ signer_bytes b ++ statement_bytes t =
    behind_tag front (signer_bytes a ++ statement_bytes s) (signer_bytes b ++ statement_bytes t)
    (sym (both_ways front (signer_bytes a) (statement_bytes s)) ∙ e ∙ both_ways front (signer_bytes b) (statement_bytes t)) in
    let parts = behind_signer a b (statement_bytes s) (statement_bytes t) can_a.0.1 can_b.0.1 rest in
    (parts.0, statement_once s t can_a.1.1 can_b.1.1 parts.1)
