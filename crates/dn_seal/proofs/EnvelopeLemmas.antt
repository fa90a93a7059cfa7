-- The parts of an envelope's bytes.
use Rattle.std.proofs.Common.{◌≡◌, ℕ, ◌+◌, List, ◌++◌, length, refl, sym, ap, ◌∙◌, append_assoc, length-append, take, drop}
use Rattle.std.proofs.Math.Seq.{drop-append_seam, take-append_seam}
use Rattle.dn_wire.specs.declared.ids.SignerId.{SignerId}
use Rattle.dn_wire.specs.declared.ids.SignerId.TheVariants.{Client, Server, Slot}
use Rattle.dn_record_types.specs.declared.statement.Statement.{Statement}
use Rattle.dn_records.specs.Fields.{spell_number}
use Rattle.dn_records.specs.Records.{statement_bytes, envelope_bytes}
use Rattle.dn_roster.specs.Roster.{signed_bytes_of}
use Rattle.dn_lms.specs.Key.{Key}
use Rattle.dn_lms.specs.Signature.{lms_signature}
use Rattle.dn_seal.specs.Signer.{envelope, heading, sealed_in}

pub envelope_parts : (who : SignerId) (s : Statement) (signature : List ℕ)
    → envelope_bytes (envelope who s signature) ≡ heading who (length (statement_bytes s)) ++ statement_bytes s ++ signature
unfolding envelope_bytes spell_number
envelope_parts (Client i) s signature = refl
envelope_parts (Server j) s signature = refl
envelope_parts (Slot t) s signature = refl

pub length-heading : (who : SignerId) (long : ℕ) → length (heading who long) ≡ 9
length-heading who long = refl

pub length-envelope : (who : SignerId) (s : Statement) (signature : List ℕ) → length (envelope_bytes (envelope who s signature)) ≡ 9 + length (statement_bytes s) + length signature
length-envelope who s signature =
    ap length (envelope_parts who s signature)
    ∙ length-append (heading who (length (statement_bytes s)) ++ statement_bytes s) signature
    ∙ ap (λ n. n + length signature) (length-append (heading who (length (statement_bytes s))) (statement_bytes s))

-- the middle one of three parts
pub middle : (bytes front part back : List ℕ) (n m : ℕ) → bytes ≡ front ++ part ++ back → n ≡ length front → m ≡ length part → take m (drop n bytes) ≡ part
middle bytes front part back n m e a b =
    (λ i. take (b i) (drop (a i) (e i)))
    ∙ ap (λ l. take (length part) (drop (length front) l)) (append_assoc front part back)
    ∙ ap (take (length part)) (drop-append_seam front (part ++ back))
    ∙ take-append_seam part back

-- what is put together for a statement
pub sealed_parts : (digest : List ℕ) (who : SignerId) (key : Key) (q : ℕ) (s : Statement) (out statement signed signature : List ℕ)
    → statement ≡ statement_bytes s → signed ≡ signed_bytes_of digest who statement → signature ≡ lms_signature key q signed
    → out ≡ heading who (length statement) ++ statement ++ signature → out ≡ sealed_in digest who key q s
sealed_parts digest who key q s out statement signed signature st sg sig is =
    let signature_is = sig ∙ ap (lms_signature key q) (sg ∙ ap (signed_bytes_of digest who) st) in
    is ∙ (λ i. heading who (length (st i)) ++ st i ++ signature_is i) ∙ sym (envelope_parts who s (lms_signature key q (signed_bytes_of digest who (statement_bytes s))))
