-- What a server answers to an accusation, and how it opens a place.
use Rattle.std.specs.Prelude.{◌≡◌, ℕ, ◌-◌, ◌<◌, ◌≤◌, ◌==◌, Bool, true, false, List, [], ◌∷◌, ◌++◌, map, length, Contains, Some, slice_index_or, if◌then◌else◌}
use Rattle.std.specs.List.{list_any}
use Rattle.dn_wire.specs.declared.ids.Round.{Round}
use Rattle.dn_bits.specs.Bits.{below}
use Rattle.dn_pads.specs.Pads.{keystream_bit}
use Rattle.dn_record_types.specs.declared.body.Body.{Body}
use Rattle.dn_record_types.specs.declared.payload.Payload.TheVariants as payloads
use Rattle.dn_record_types.specs.declared.statement.Statement.{Statement}
use Rattle.dn_record_types.specs.declared.statement.Statement.TheVariants as kinds
use Rattle.dn_records.specs.Records.{payload_bytes}
use Rattle.dn_seal.specs.Said.{SaidView}
use Rattle.dn_cert.specs.Chain.{bodies, IsLayoutAfter}
use Rattle.dn_cert.specs.Evidence.{IsValid, IsInvalid}
use Rattle.dn_cert.specs.declared.rules.Valid.{Valid}
use Rattle.dn_cert.specs.declared.rules.Invalid.{Invalid}
use Rattle.dn_cert.specs.declared.rules.Invalid.TheVariants as invalid
use Rattle.dn_trace.specs.Trial.{Says}
use Rattle.dn_server.specs.declared.act.Act.{Act}
use Rattle.dn_server.specs.declared.act.Act.TheVariants as acts
use Rattle.dn_server.specs.declared.answer.Answer.{Answer}
use Rattle.dn_server.specs.declared.answer.Reason.{Reason}
use Rattle.dn_server.specs.declared.answer.Reason.TheVariants as reasons
use Rattle.dn_server.specs.declared.past.Past.{Past}
use Rattle.dn_server.specs.declared.places.Place.{Place}
use Rattle.dn_server.specs.Answers.{ignored, does}
use Rattle.dn_server.specs.Justified.{Seat}
use Rattle.dn_server.specs.Server.{ServerView, itself, left_of, others_of, past_of, said_next, post_next, with_signed}
use Rattle.dn_openings.specs.Evidence.{with_evidence}
use Rattle.dn_openings.specs.Challenging.{LooksAt}

-- ---- what is signed

-- the body lists client i
abbrev pub lists : Body → ℕ → Bool
lists b i = list_any (λ l. l.client.0 == i) b.listed

-- the pad bits that the server opens at place k of a body's round, by client: the true ones of those that the body lists, and 0 for others
abbrev pub opened_bits : Seat → Body → ℕ → List Bool
opened_bits seat b k =
    map (λ i. if lists b i then keystream_bit (slice_index_or seat.seeds i []) b.r.0 k else false) (below (length seat.roster.clients))

abbrev pub pads_at : Seat → Body → ℕ → Statement
pads_at seat b k = kinds.PadBits b.r k (opened_bits seat b k)

-- the server's ciphertext of a round, and those of the clients that the body gives to it
abbrev pub shown_of : Past → Statement
shown_of past = kinds.Shown past.body.r past.s past.own

-- The server keeps what was said, but once: not where the signer's same statement is kept.
pub data KeepsOnce (v : ServerView) (said : SaidView) (after : ServerView) : Type 0 where
  is_kept : Says v.evidence said.signer said.statement → after ≡ v → KeepsOnce v said after
  is_new : ¬ Says v.evidence said.signer said.statement → after ≡ with_evidence v said → KeepsOnce v said after

-- the server signs a statement, and keeps it
abbrev pub SignsAndKeeps : ServerView → Statement → ServerView → Type 0
SignsAndKeeps v s after = KeepsOnce (with_signed v s) (said_next v s) after

-- the server has opened a place of round r
abbrev pub has_opened : ServerView → Round → Bool
has_opened v r = list_any (λ p. p.r.0 == r.0) v.opened

-- how many leaves the server needs to open one more place of round r: one for its pad bits, and one for the ciphertexts, which are signed once a
-- round
abbrev pub leaves_due : ServerView → Round → ℕ
leaves_due v r = if has_opened v r then 1 else 2

abbrev pub with_opened : ServerView → Place → ServerView
with_opened v place = record v { opened = v.opened ++ place ∷ [] }

-- the post of an envelope that is kept
abbrev pub post_again : ServerView → SaidView → Act
post_again v said = acts.Post (others_of v.seat) (payload_bytes (payloads.Plain said.bytes))

-- The server shows its ciphertexts of a round: it signs and posts them, and where it has opened a place of the round before, it posts again
-- what it signed then.
pub data Shows (v : ServerView) (past : Past) (did : List Act) (after : ServerView) : Type 0 where
  first_of_round : has_opened v past.body.r ≡ false → SignsAndKeeps v (shown_of past) after
      → did ≡ post_next v (others_of v.seat) (shown_of past) ∷ [] → Shows v past did after
  again : (said : SaidView) → has_opened v past.body.r ≡ true → Contains v.evidence said → said.signer ≡ itself v → said.statement ≡ shown_of past
      → did ≡ post_again v said ∷ [] → after ≡ v → Shows v past did after

-- The server opens place k of a body's round: it signs its pad bits and posts them, then it shows its ciphertexts, and then it looks for clients to
-- challenge.
pub record Opens (v : ServerView) (b : Body) (past : Past) (k : ℕ) (did : List Act) (after : ServerView) : Type 0 where
  pub padded : ServerView
  pub signs : SignsAndKeeps v (pads_at v.seat b k) padded
  pub shown : ServerView
  pub shown_did : List Act
  pub shows : Shows padded past shown_did shown
  pub looked_did : List Act
  pub looks : LooksAt (with_opened shown record { r = b.r; k = k }) record { r = b.r; k = k } looked_did after
  pub in_order : did ≡ (post_next v (others_of v.seat) (pads_at v.seat b k) ∷ shown_did) ++ looked_did

-- ---- what is answered

-- The server holds this body of round r, and signed it: it keeps its ciphertexts of that body.
pub record HasSigned (v : ServerView) (r : Round) (b : Body) (past : Past) : Type 0 where
  pub held : Contains (bodies v.chain) b
  pub round : b.r ≡ r
  pub kept : past_of v.pasts r.0 ≡ Some past
  pub of_body : past.body ≡ b

-- the body of round r, which the server signed, and the layout on which the round ran
pub record IsAccused (v : ServerView) (r : Round) (b : Body) (past : Past) (layout : List ℕ) : Type 0 where
  pub body : HasSigned v r b past
  pub after : IsLayoutAfter v.chain b.prev.0 layout

abbrev pub reason_for : Invalid → Reason
reason_for invalid.Key = reasons.Key
reason_for invalid.Place = reasons.Place
reason_for invalid.Zero = reasons.Zero

abbrev pub place_of : Valid → Place
place_of valid = record { r = valid.r; k = valid.k }

-- An accusation of round r comes: the first of these that is so.
pub data Accuses (v : ServerView) (r : Round) (said : SaidView) (answer : Answer) (after : ServerView) : Type 0 where
  not_signed : ((b : Body) (past : Past) → ¬ HasSigned v r b past) → answer ≡ ignored reasons.Body → after ≡ v → Accuses v r said answer after
  not_valid : (b : Body) (past : Past) (layout : List ℕ) (why : Invalid) → IsAccused v r b past layout
      → IsInvalid layout b said.signer said.statement why → answer ≡ ignored (reason_for why) → after ≡ v → Accuses v r said answer after
  is_opened : (b : Body) (past : Past) (layout : List ℕ) (valid : Valid) → IsAccused v r b past layout
      → IsValid layout b said.signer said.statement valid → Contains v.opened (place_of valid)
      → answer ≡ ignored reasons.Repeat → after ≡ v → Accuses v r said answer after
  is_spent : (b : Body) (past : Past) (layout : List ℕ) (valid : Valid) → IsAccused v r b past layout
      → IsValid layout b said.signer said.statement valid → ¬ Contains v.opened (place_of valid) → left_of v - v.aside < leaves_due v r
      → answer ≡ ignored reasons.Spent → after ≡ v → Accuses v r said answer after
  opens : (b : Body) (past : Past) (layout : List ℕ) (valid : Valid) (did : List Act) → IsAccused v r b past layout
      → IsValid layout b said.signer said.statement valid → ¬ Contains v.opened (place_of valid) → leaves_due v r ≤ left_of v - v.aside
      → Opens v b past valid.k did after → answer ≡ does did → Accuses v r said answer after

-- The accusation is accepted: nothing stands against it.
pub record IsAccepted (v : ServerView) (r : Round) (said : SaidView) (b : Body) (past : Past) (valid : Valid) : Type 0 where
  pub layout : List ℕ
  pub accused : IsAccused v r b past layout
  pub holds : IsValid layout b said.signer said.statement valid
  pub new : ¬ Contains v.opened (place_of valid)
  pub leaves : leaves_due v r ≤ left_of v - v.aside
