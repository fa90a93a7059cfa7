-- How long statements are.
use Rattle.std.proofs.Common.{◌≡◌, ℕ, zero, suc, ◌+◌, ◌*◌, ◌/◌, ◌^◌, ◌<◌, ◌≤◌, Bool, List, [], ◌∷◌, ◌++◌, length, ap, ◌∙◌, arith, length-append}
use Rattle.std.specs.Prelude.{All}
use Rattle.std.specs.List.{flat_map, AllByRecursion}
use Rattle.std.specs.Int.{w16, w32, w64, to_be_bytes}
use Rattle.std.proofs.lemmas.List.{length-map}
use Rattle.std.proofs.lemmas.List.Concat.{flat_map-cons}
use Rattle.std.proofs.lemmas.List.FromFn.{length-range_with_len}
use Rattle.dn_bits.specs.Bits.{below, byte_of, bytes_of}
use Rattle.dn_wire.specs.declared.ids.SignerId.{SignerId}
use Rattle.dn_wire.specs.declared.ids.SignerId.TheVariants.{Client, Server, Slot}
use Rattle.dn_record_types.specs.declared.inventory.Entry.{Entry}
use Rattle.dn_record_types.specs.declared.inventory.Inventory.{Inventory}
use Rattle.dn_record_types.specs.declared.body.Listed.{Listed}
use Rattle.dn_record_types.specs.declared.body.Body.{Body}
use Rattle.dn_record_types.specs.declared.shown.ShownCipher.{ShownCipher}
use Rattle.dn_record_types.specs.declared.statement.Statement.{Statement}
use Rattle.dn_record_types.specs.declared.statement.Statement.TheVariants as kinds
use Rattle.dn_records.specs.Fields.{spell_number, bits, digest}
use Rattle.dn_records.specs.Lists.{FitsRow, spell_row}
use Rattle.dn_records.specs.Records.{entry, listed, shown_cipher, spell_thin, statement_bytes, IsStatement}
use Rattle.dn_wire.specs.Signer.{number_of}
use Rattle.dn_roster.specs.Roster.{signed_bytes_of}
use Rattle.dn_lms.proofs.SizeLemmas.{verified_short}
use Rattle.dn_seal.specs.Signer.{CanSign}
use Rattle.dn_seal.specs.Said.{SaidView, IsSaid}
use Rattle.dn_seal.specs.Sizes.{HasShortSignatures, most_bytes, longest_signature, longest_bits}
use Rattle.dn_seal.proofs.EnvelopeLemmas.{length-envelope}

-- the bytes of a list each of whose values has at most n
flat_few : {X : Type 0} (f : X → List ℕ) (P : X → Type 0) (n : ℕ) → ((x : X) → P x → length (f x) ≤ n) → (xs : List X) → AllByRecursion P xs → length (flat_map f xs) ≤ n * length xs
flat_few f P n each [] all = omega arith
flat_few f P n each (x ∷ xs) all =
    omega (arith, ap length (flat_map-cons f x xs), length-append (f x) (flat_map f xs), each x all.0, flat_few f P n each xs all.1)

both : {X : Type 0} (P Q : X → Type 0) (xs : List X) → AllByRecursion P xs → All Q xs → AllByRecursion (λ x. P x × Q x) xs
both P Q [] p q = tt
both P Q (x ∷ xs) p q = ((p.0, q 0 x (omega arith)), both P Q xs p.1 (λ k d lt. q (suc k) d (omega arith)))

length-bits : (b : List Bool) → length b ≤ 65536 → length (bits.spell b) ≤ longest_bits
unfolding spell_number
length-bits b few =
    let long : length (bytes_of b) ≡ (length b + 7) / 8 = length-map (below ((length b + 7) / 8)) (byte_of b) ∙ length-range_with_len 0 ((length b + 7) / 8) in
    omega (arith, length-append (to_be_bytes w32 (length b)) (bytes_of b), long)

length-entry : (e : Entry) → FitsRow entry e × (length e.signature ≤ longest_signature) → length (spell_row entry e) ≤ 9042
unfolding spell_number
length-entry e fits = omega (arith, fits.0.1.0, fits.1, length-append e.digest (to_be_bytes w16 (length e.signature) ++ e.signature))

length-listed : (l : Listed) → FitsRow listed l → length (spell_row listed l) ≤ 40
unfolding spell_number
length-listed l fits = omega (arith, fits.1.1)

length-shown : (x : ShownCipher) → FitsRow shown_cipher x → length (spell_row shown_cipher x) ≤ 8200
unfolding spell_number
length-shown x fits = omega (arith, length-bits x.cipher fits.1)

length-digest : (d : List ℕ) → digest.Fits d → length (digest.spell d) ≤ 32
length-digest d fits = omega (arith, fits)

inventory_few : (v : Inventory) → IsStatement (kinds.Inventory v) → HasShortSignatures (kinds.Inventory v) → length (statement_bytes (kinds.Inventory v)) ≤ most_bytes (kinds.Inventory v)
unfolding statement_bytes spell_number
inventory_few v fits short =
    omega (
      arith,
      fits.1.1.0,
      flat_few (spell_row entry) (λ e. FitsRow entry e × (length e.signature ≤ longest_signature)) 9042 length-entry v.entries
          (both (FitsRow entry) (λ (e : Entry). length e.signature ≤ longest_signature) v.entries fits.1.1.2 short),
    )

thin_few : (version : ℕ) (thin : Bool) → length (spell_thin version thin) ≤ 1
unfolding spell_thin
thin_few version thin = grind arith

body_few : (b : Body) → IsStatement (kinds.Sign b) → length (statement_bytes (kinds.Sign b)) ≤ most_bytes (kinds.Sign b)
unfolding statement_bytes spell_number
body_few b fits =
    let rows = flat_map (spell_row listed) b.listed in
    let digests = flat_map digest.spell b.digests in
    omega (
      arith,
      thin_few b.version b.thin,
      fits.1.1.1.1.0.0,
      fits.1.1.1.1.1.0.0,
      flat_few (spell_row listed) (FitsRow listed) 40 length-listed b.listed fits.1.1.1.1.0.2,
      flat_few digest.spell digest.Fits 32 length-digest b.digests fits.1.1.1.1.1.0.1,
      length-bits b.out fits.1.1.1.1.1.1,
      length-append (spell_thin b.version b.thin) (to_be_bytes w32 (length b.listed) ++ rows ++ (to_be_bytes w32 (length b.digests) ++ digests ++ bits.spell b.out)),
      length-append rows (to_be_bytes w32 (length b.digests) ++ digests ++ bits.spell b.out),
      length-append digests (bits.spell b.out),
    )

pub bytes_few : (s : Statement) → IsStatement s → HasShortSignatures s → length (statement_bytes s) ≤ most_bytes s
unfolding statement_bytes spell_number
bytes_few (kinds.Submission r prev i d) fits short = omega (arith, fits.1.1.1)
bytes_few (kinds.Receipt r i d t) fits short = omega (arith, fits.1.1.0, length-append d)
bytes_few (kinds.Inventory v) fits short = inventory_few v fits short
bytes_few (kinds.Commit r d) fits short = omega (arith, fits.1)
bytes_few (kinds.Reveal r s) fits short = omega (arith, length-bits s fits.1)
bytes_few (kinds.Sign b) fits short = body_few b fits
bytes_few (kinds.PadBits r k bs) fits short = omega (arith, length-bits bs fits.1.1)
bytes_few (kinds.Shown r s xs) fits short =
    omega (arith, length-bits s fits.1.0, fits.1.1.0, flat_few (spell_row shown_cipher) (FitsRow shown_cipher) 8200 length-shown xs fits.1.1.2, length-append (bits.spell s) (to_be_bytes w32 (length xs) ++ flat_map (spell_row shown_cipher) xs))
bytes_few (kinds.Accusation r s k) fits short = omega arith
bytes_few (kinds.Rebuttal r k j seed e) fits short = omega (arith, fits.1.1.1.0, fits.1.1.1.1, length-append seed (to_be_bytes w32 (length e) ++ e))
bytes_few (kinds.Concede r k) fits short = omega arith

most_few : (s : Statement) → most_bytes s ≤ 16777216
most_few (kinds.Submission r prev i d) = omega arith
most_few (kinds.Receipt r i d t) = omega arith
most_few (kinds.Inventory v) = omega arith
most_few (kinds.Commit r d) = omega arith
most_few (kinds.Reveal r s) = omega arith
most_few (kinds.Sign b) = omega arith
most_few (kinds.PadBits r k bs) = omega arith
most_few (kinds.Shown r s xs) = omega arith
most_few (kinds.Accusation r s k) = omega arith
most_few (kinds.Rebuttal r k j seed e) = omega arith
most_few (kinds.Concede r k) = omega arith

fits_with : (who : SignerId) (s : Statement) → number_of who < 2 ^ 32 → length (statement_bytes s) ≤ 16777216 → IsStatement s → CanSign who s
fits_with (Client i) s low few fits = (((omega arith, omega arith), low), (few, fits))
fits_with (Server j) s low few fits = (((omega arith, omega arith), low), (few, fits))
fits_with (Slot t) s low few fits = (((omega arith, omega arith), low), (few, fits))

pub can_sign : (who : SignerId) (s : Statement) → number_of who < 2 ^ 32 → IsStatement s → HasShortSignatures s → CanSign who s
can_sign who s low fits short =
    let few : length (statement_bytes s) ≤ 16777216 = omega (arith, bytes_few s fits short, most_few s) in
    fits_with who s low few fits

pub said_few : (x : SaidView) → IsSaid x → HasShortSignatures x.statement → length x.bytes ≤ 9 + most_bytes x.statement + longest_signature
said_few x is short =
    omega (
      arith,
      ap length is.spelled,
      length-envelope x.signer x.statement x.signature,
      bytes_few x.statement is.fits.1.1 short,
      verified_short x.key (signed_bytes_of x.digest x.signer (statement_bytes x.statement)) x.signature is.verifies,
    )
