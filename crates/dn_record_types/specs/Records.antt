-- Each record as its parts.
use Rattle.std.specs.Prelude.{◌≡◌, ℕ, Bool, false, IsTrue, List, [], ◌∷◌, ◌++◌, Result, Ok, Err, ◌==◌, if◌then◌else◌}
use Rattle.dn_wire.specs.Cursor.{Cursor, start}
use Rattle.dn_wire.specs.Signer.{signer_tag, number_of}
use Rattle.dn_wire.specs.declared.limits.TheConstants.{MAX_SERVERS, MAX_STATEMENT_BYTES, MAX_CARRIED_BYTES}
use Rattle.dn_wire.specs.declared.ids.ClientId.{ClientId}
use Rattle.dn_wire.specs.declared.ids.ServerId.{ServerId}
use Rattle.dn_wire.specs.declared.ids.SlotId.{SlotId}
use Rattle.dn_wire.specs.declared.ids.Round.{Round}
use Rattle.dn_wire.specs.declared.ids.SignerId.{SignerId}
use Rattle.dn_wire.specs.declared.ids.SignerId.TheVariants as signers
use Rattle.dn_record_types.specs.declared.inventory.Entry.{Entry}
use Rattle.dn_record_types.specs.declared.inventory.Inventory.{Inventory}
use Rattle.dn_record_types.specs.declared.body.Listed.{Listed}
use Rattle.dn_record_types.specs.declared.body.Body.{Body}
use Rattle.dn_record_types.specs.declared.shown.ShownCipher.{ShownCipher}
use Rattle.dn_record_types.specs.declared.statement.Statement.{Statement}
use Rattle.dn_record_types.specs.declared.statement.Statement.TheVariants as kinds
use Rattle.dn_record_types.specs.declared.statement.WordTold.{WordTold}
use Rattle.dn_record_types.specs.declared.statement.WordTold.TheVariants.{Included, Late}
use Rattle.dn_record_types.specs.declared.envelope.Envelope.{Envelope}
use Rattle.dn_record_types.specs.declared.payload.Payload.{Payload}
use Rattle.dn_record_types.specs.declared.payload.Payload.TheVariants as payloads
use Rattle.dn_record_types.specs.declared.fault.RecordFault.{RecordFault}
use Rattle.dn_record_types.specs.declared.fault.RecordFault.TheVariants.{Kind}
use Rattle.dn_record_types.specs.Part.{Part, Read, made, ◌>>=◌, ◌⋈◌, led_by, seen, whole}
use Rattle.dn_record_types.specs.Fields.{short, word, up_to, few, flag, exactly, sized, bits, round, client_field, server_field, slot_field, digest, read_byte, read_flag}
use Rattle.dn_record_types.specs.Lists.{Row, rows, several, inside}

abbrev pub entry : Row Entry
entry = record {
  Rest = List ℕ × List ℕ;
  key = λ e. e.client;
  rest = λ e. (e.digest, e.signature);
  make = λ i x. record { client = i; digest = x.0; signature = x.1 };
  part = digest ⋈ sized short;
}

abbrev pub inventory : Part Inventory
inventory = seen (λ x. record { r = x.0; prev = x.1.0; entries = x.1.1 }) (λ v. (v.r, (v.prev, v.entries))) (round ⋈ round ⋈ rows entry)

abbrev pub listed : Row Listed
listed = record {
  Rest = ServerId × List ℕ;
  key = λ l. l.client;
  rest = λ l. (l.server, l.digest);
  make = λ i x. record { client = i; server = x.0; digest = x.1 };
  part = server_field ⋈ digest;
}

abbrev pub shown_cipher : Row ShownCipher
shown_cipher = record {
  Rest = List Bool;
  key = λ s. s.client;
  rest = λ s. s.cipher;
  make = λ i x. record { client = i; cipher = x };
  part = bits;
}

-- whether a body of this version is thin: a byte in version 2, and nothing in version 1, in which no body is
unfoldable pub spell_thin : ℕ → Bool → List ℕ
spell_thin version thin = if version == 2 then flag.spell thin else []

unfoldable pub read_thin : ℕ → Cursor → Read Bool
read_thin version c = if version == 2 then read_flag c else Ok (false, c)

abbrev pub thin_in : ℕ → Part Bool
thin_in version = record { spell = spell_thin version; read = read_thin version; Fits = λ thin. IsTrue thin → version ≡ 2 }

-- what follows the version of a body
abbrev pub body_fields : ℕ → Part (Round × (Round × (Bool × (List Listed × (List (List ℕ) × List Bool)))))
body_fields version = round ⋈ round ⋈ thin_in version ⋈ rows listed ⋈ several (up_to MAX_SERVERS) digest ⋈ bits

-- the body, of version 1 or 2
abbrev pub body : Part Body
body = seen
    (λ x. record { version = x.0; r = x.1.0; prev = x.1.1.0; thin = x.1.1.1.0; listed = x.1.1.1.1.0; digests = x.1.1.1.1.1.0; out = x.1.1.1.1.1.1 })
    (λ b. (b.version, (b.r, (b.prev, (b.thin, (b.listed, (b.digests, b.out)))))))
    (led_by (few 2) body_fields)

abbrev pub word_told : ℕ → WordTold
word_told n = if n == 1 then Included else Late

abbrev pub told_byte : WordTold → ℕ
told_byte Included = 1
told_byte Late = 2

abbrev pub told : Part WordTold
told = seen word_told told_byte (few 2)

-- what follows the kind byte of each statement
abbrev pub submission : Part (Round × (Round × (ClientId × List ℕ)))
submission = round ⋈ round ⋈ client_field ⋈ digest

abbrev pub receipt : Part (Round × (ClientId × (List ℕ × WordTold)))
receipt = round ⋈ client_field ⋈ digest ⋈ told

abbrev pub commit : Part (Round × List ℕ)
commit = round ⋈ digest

abbrev pub reveal : Part (Round × List Bool)
reveal = round ⋈ bits

abbrev pub pad_bits : Part (Round × (ℕ × List Bool))
pad_bits = round ⋈ word ⋈ bits

abbrev pub shown : Part (Round × (List Bool × List ShownCipher))
shown = round ⋈ bits ⋈ rows shown_cipher

abbrev pub accusation : Part (Round × (SlotId × ℕ))
accusation = round ⋈ slot_field ⋈ word

abbrev pub rebuttal : Part (Round × (ℕ × (ServerId × (List ℕ × List ℕ))))
rebuttal = round ⋈ word ⋈ server_field ⋈ exactly 32 ⋈ sized (up_to MAX_CARRIED_BYTES)

abbrev pub concede : Part (Round × ℕ)
concede = round ⋈ word

-- each statement, from what follows its kind byte
unfoldable pub read_submission : Cursor → Read Statement
read_submission c = made (λ x. kinds.Submission x.0 x.1.0 x.1.1.0 x.1.1.1) (submission.read c)

unfoldable pub read_receipt : Cursor → Read Statement
read_receipt c = made (λ x. kinds.Receipt x.0 x.1.0 x.1.1.0 x.1.1.1) (receipt.read c)

unfoldable pub read_inventory : Cursor → Read Statement
read_inventory c = made (λ x. kinds.Inventory x) (inventory.read c)

unfoldable pub read_commit : Cursor → Read Statement
read_commit c = made (λ x. kinds.Commit x.0 x.1) (commit.read c)

unfoldable pub read_reveal : Cursor → Read Statement
read_reveal c = made (λ x. kinds.Reveal x.0 x.1) (reveal.read c)

unfoldable pub read_sign : Cursor → Read Statement
read_sign c = made (λ x. kinds.Sign x) (body.read c)

unfoldable pub read_pad_bits : Cursor → Read Statement
read_pad_bits c = made (λ x. kinds.PadBits x.0 x.1.0 x.1.1) (pad_bits.read c)

unfoldable pub read_shown : Cursor → Read Statement
read_shown c = made (λ x. kinds.Shown x.0 x.1.0 x.1.1) (shown.read c)

unfoldable pub read_accusation : Cursor → Read Statement
read_accusation c = made (λ x. kinds.Accusation x.0 x.1.0 x.1.1) (accusation.read c)

unfoldable pub read_rebuttal : Cursor → Read Statement
read_rebuttal c = made (λ x. kinds.Rebuttal x.0 x.1.0 x.1.1.0 x.1.1.1.0 x.1.1.1.1) (rebuttal.read c)

unfoldable pub read_concede : Cursor → Read Statement
read_concede c = made (λ x. kinds.Concede x.0 x.1) (concede.read c)

-- the statement of this kind, or that it is no kind
unfoldable pub read_kind : ℕ → Cursor → Read Statement
read_kind kind c =
    if kind == 1 then read_submission c
    else if kind == 2 then read_receipt c
    else if kind == 3 then read_inventory c
    else if kind == 4 then read_commit c
    else if kind == 5 then read_reveal c
    else if kind == 6 then read_sign c
    else if kind == 7 then read_pad_bits c
    else if kind == 8 then read_shown c
    else if kind == 9 then read_accusation c
    else if kind == 10 then read_rebuttal c
    else if kind == 11 then read_concede c
    else Err (Kind kind)

-- the kind byte
abbrev pub kind_byte : Statement → ℕ
kind_byte (kinds.Submission r prev i d) = 1
kind_byte (kinds.Receipt r i d t) = 2
kind_byte (kinds.Inventory v) = 3
kind_byte (kinds.Commit r d) = 4
kind_byte (kinds.Reveal r s) = 5
kind_byte (kinds.Sign b) = 6
kind_byte (kinds.PadBits r k bs) = 7
kind_byte (kinds.Shown r s xs) = 8
kind_byte (kinds.Accusation r s k) = 9
kind_byte (kinds.Rebuttal r k j seed e) = 10
kind_byte (kinds.Concede r k) = 11

-- the bytes of the fields behind it
abbrev pub spell_fields : Statement → List ℕ
spell_fields (kinds.Submission r prev i d) = submission.spell (r, (prev, (i, d)))
spell_fields (kinds.Receipt r i d t) = receipt.spell (r, (i, (d, t)))
spell_fields (kinds.Inventory v) = inventory.spell v
spell_fields (kinds.Commit r d) = commit.spell (r, d)
spell_fields (kinds.Reveal r s) = reveal.spell (r, s)
spell_fields (kinds.Sign b) = body.spell b
spell_fields (kinds.PadBits r k bs) = pad_bits.spell (r, (k, bs))
spell_fields (kinds.Shown r s xs) = shown.spell (r, (s, xs))
spell_fields (kinds.Accusation r s k) = accusation.spell (r, (s, k))
spell_fields (kinds.Rebuttal r k j seed e) = rebuttal.spell (r, (k, (j, (seed, e))))
spell_fields (kinds.Concede r k) = concede.spell (r, k)

-- the bytes of a statement: its kind, and its fields
unfoldable pub statement_bytes : Statement → List ℕ
statement_bytes s = kind_byte s ∷ spell_fields s

-- the limits and orders that a statement keeps
abbrev pub IsStatement : Statement → Type 0
IsStatement (kinds.Submission r prev i d) = submission.Fits (r, (prev, (i, d)))
IsStatement (kinds.Receipt r i d t) = receipt.Fits (r, (i, (d, t)))
IsStatement (kinds.Inventory v) = inventory.Fits v
IsStatement (kinds.Commit r d) = commit.Fits (r, d)
IsStatement (kinds.Reveal r s) = reveal.Fits (r, s)
IsStatement (kinds.Sign b) = body.Fits b
IsStatement (kinds.PadBits r k bs) = pad_bits.Fits (r, (k, bs))
IsStatement (kinds.Shown r s xs) = shown.Fits (r, (s, xs))
IsStatement (kinds.Accusation r s k) = accusation.Fits (r, (s, k))
IsStatement (kinds.Rebuttal r k j seed e) = rebuttal.Fits (r, (k, (j, (seed, e))))
IsStatement (kinds.Concede r k) = concede.Fits (r, k)

unfoldable pub read_statement : Cursor → Read Statement
read_statement c = read_byte c >>= λ kind. read_kind kind.0 kind.1

abbrev pub statement : Part Statement
statement = record { spell = statement_bytes; read = read_statement; Fits = IsStatement }

-- all of the bytes as a statement, or the first fault
unfoldable pub statement_of : List ℕ → Result Statement RecordFault
statement_of bytes = whole statement (start bytes)

-- bodies
unfoldable pub body_bytes : Body → List ℕ
body_bytes b = body.spell b

abbrev pub IsBody : Body → Type 0
IsBody b = body.Fits b

unfoldable pub body_of : List ℕ → Result Body RecordFault
body_of bytes = whole body (start bytes)

-- envelopes; a signer is its tag and its number
abbrev pub tagged_signer : ℕ × ℕ → SignerId
tagged_signer x =
    if x.0 == 1 then signers.Client (record { 0 = x.1 })
    else if x.0 == 2 then signers.Server (record { 0 = x.1 })
    else signers.Slot (record { 0 = x.1 })

abbrev pub signer : Part SignerId
signer = seen tagged_signer (λ who. (signer_tag who, number_of who)) (few 3 ⋈ word)

-- what stands before the signature, which is all that is left
abbrev pub signed : Part (SignerId × Statement)
signed = signer ⋈ inside (up_to MAX_STATEMENT_BYTES) statement

unfoldable pub envelope_bytes : Envelope → List ℕ
envelope_bytes e = signed.spell (e.signer, e.statement) ++ e.signature

abbrev pub IsEnvelope : Envelope → Type 0
IsEnvelope e = signed.Fits (e.signer, e.statement)

unfoldable pub envelope_of : List ℕ → Result Envelope RecordFault
envelope_of bytes = signed.read (start bytes) >>= λ x. Ok (record { signer = x.0.0; statement = x.0.1; signature = x.1.rest })

-- payloads; an envelope in one is all that is left
abbrev pub certificate : Part (Body × List (List ℕ))
certificate = inside word body ⋈ several word (sized short)

abbrev pub challenge : Part (Round × (ℕ × List (List ℕ)))
challenge = round ⋈ word ⋈ several (up_to MAX_SERVERS) (sized word)

unfoldable pub payload_bytes : Payload → List ℕ
payload_bytes (payloads.Submission cipher e) = 1 ∷ bits.spell cipher ++ e
payload_bytes (payloads.Plain e) = 2 ∷ e
payload_bytes (payloads.Certificate b signatures) = 3 ∷ certificate.spell (b, signatures)
payload_bytes (payloads.Challenge r k envelopes) = 4 ∷ challenge.spell (r, (k, envelopes))

abbrev pub IsPayload : Payload → Type 0
IsPayload (payloads.Submission cipher e) = bits.Fits cipher
IsPayload (payloads.Plain e) = Unit {0}
IsPayload (payloads.Certificate b signatures) = certificate.Fits (b, signatures)
IsPayload (payloads.Challenge r k envelopes) = challenge.Fits (r, (k, envelopes))

unfoldable pub read_cipher : Cursor → Result Payload RecordFault
read_cipher c = bits.read c >>= λ x. Ok (payloads.Submission x.0 x.1.rest)

unfoldable pub read_certificate : Cursor → Result Payload RecordFault
read_certificate c = whole certificate c >>= λ x. Ok (payloads.Certificate x.0 x.1)

unfoldable pub read_challenge : Cursor → Result Payload RecordFault
read_challenge c = whole challenge c >>= λ x. Ok (payloads.Challenge x.0 x.1.0 x.1.1)

-- the payload of this tag, or that it is no tag
unfoldable pub read_tag : ℕ → Cursor → Result Payload RecordFault
read_tag tag c =
    if tag == 1 then read_cipher c
    else if tag == 2 then Ok (payloads.Plain c.rest)
    else if tag == 3 then read_certificate c
    else if tag == 4 then read_challenge c
    else Err (Kind tag)

unfoldable pub payload_of : List ℕ → Result Payload RecordFault
payload_of bytes = read_byte (start bytes) >>= λ tag. read_tag tag.0 tag.1
