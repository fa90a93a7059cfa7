-- How a server goes on in the round that it runs: what is due next, what stands in its way, and what follows.
use Rattle.std.specs.Prelude.{◌≡◌, ◌≢◌, ℕ, ◌-◌, ◌<◌, ◌++◌, nat_lt, Bool, true, false, List, [], ◌∷◌, length, Option, Some, None, option_map, slice_get, if◌then◌else◌}
use Rattle.dn_bits.specs.Bits.{flip_at, sum_bits}
use Rattle.dn_lms.specs.Key.{leaf_count}
use Rattle.dn_record_types.specs.declared.body.Body.{Body}
use Rattle.dn_record_types.specs.declared.body.Listed.{Listed}
use Rattle.dn_record_types.specs.declared.inventory.Inventory.{Inventory}
use Rattle.dn_record_types.specs.declared.statement.Statement.{Statement}
use Rattle.dn_record_types.specs.declared.statement.Statement.TheVariants as kinds
use Rattle.dn_records.specs.Records.{statement_bytes, body_bytes, kind_byte, payload_bytes}
use Rattle.dn_record_types.specs.declared.payload.Payload.TheVariants as payloads
use Rattle.dn_seal.specs.Said.{SaidView}
use Rattle.dn_cert.specs.Certificate.{CertificateView, IsCertificate, IsCertificateUnder}
use Rattle.dn_cert.specs.Chain.{CanFollow, with_held, count_at}
use Rattle.dn_cert.specs.Floor.{is_due_thin}
use Rattle.dn_cert.specs.Trim.{IsTrim, given_to}
use Rattle.dn_server.specs.declared.act.Act.{Act}
use Rattle.dn_server.specs.declared.act.Act.TheVariants as acts
use Rattle.dn_server.specs.declared.act.SpoilReason.TheVariants as reasons
use Rattle.dn_server.specs.declared.past.Past.{Past}
use Rattle.dn_server.specs.declared.run.Stage.{Stage}
use Rattle.dn_server.specs.declared.run.Stage.TheVariants as stages
use Rattle.dn_server.specs.declared.run.Sum.{Sum}
use Rattle.dn_server.specs.Justified.{server_string, digest_by, AreOfRows, AreIncluded}
use Rattle.dn_server.specs.Server.{ServerView, servers_in, course_of, others_of, everyone_of, kept_of, statement_of, AreKept, WasIncluded, said_next, post_next, with_signed, ended}

-- ---- what is due

-- The list is the trim of one inventory of each server, and the floor answers so for it.
pub record IsListing (v : ServerView) (thin : Bool) (listed : List Listed) : Type 0 where
  pub inventories : List Inventory
  pub kept : AreKept kinds.Inventory 3 v.run.kept (servers_in v) inventories
  pub trim : IsTrim inventories listed
  pub floor : is_due_thin v.seat.roster.version (length listed) (count_at v.chain v.run.prev.0) ≡ thin

-- a string with the bit at the place turned, where there is a place and the string has it
abbrev pub turned : Option ℕ → List Bool → List Bool
turned None s = s
turned (Some k) s = if nat_lt k (length s) then flip_at s k else s

-- the sum that goes with a list: the server's ciphertext, and the ciphertexts that it holds of the clients that the list gives to it
pub record IsSum (v : ServerView) (sum : Sum) : Type 0 where
  pub rows : AreOfRows (course_of v.run) (given_to sum.listed v.seat.number) sum.own
  pub told : AreIncluded (WasIncluded v.run) (course_of v.run) (given_to sum.listed v.seat.number) sum.own
  pub value : sum.s ≡ turned v.bend (server_string v.seat (course_of v.run) sum.listed sum.own)

abbrev pub commitment_of : ServerView → Sum → Statement
commitment_of v sum = kinds.Commit v.run.r (digest_by (course_of v.run) v.seat.number sum.s)

-- With an inventory of each server, in a round with data, the commitment to the sum is due.
pub record IsCommitDue (v : ServerView) (sum : Sum) : Type 0 where
  pub stage : v.run.stage ≡ stages.Listed
  pub listing : IsListing v false sum.listed
  pub summed : IsSum v sum

-- With a commitment of each server, the ciphertext is due.
pub record IsRevealDue (v : ServerView) (sum : Sum) : Type 0 where
  pub stage : v.run.stage ≡ stages.Committed
  pub digests : List (List ℕ)
  pub kept : AreKept (kinds.Commit v.run.r) 4 v.run.kept (servers_in v) digests
  pub has : v.run.sum ≡ Some sum

-- With a ciphertext of each server, the body with their sum is due.
pub record IsBodyDue (v : ServerView) (sum : Sum) (b : Body) : Type 0 where
  pub stage : v.run.stage ≡ stages.Revealed
  pub digests : List (List ℕ)
  pub strings : List (List Bool)
  pub has : v.run.sum ≡ Some sum
  pub commits : AreKept (kinds.Commit v.run.r) 4 v.run.kept (servers_in v) digests
  pub reveals : AreKept (kinds.Reveal v.run.r) 5 v.run.kept (servers_in v) strings
  pub is : b ≡ record { version = v.seat.roster.version; r = v.run.r; prev = v.run.prev; thin = false; listed = sum.listed; digests = digests; out = sum_bits v.run.bits strings }

-- With an inventory of each server, in a round without data, the body with the list alone is due.
pub record IsThinDue (v : ServerView) (b : Body) : Type 0 where
  pub stage : v.run.stage ≡ stages.Listed
  pub listed : List Listed
  pub listing : IsListing v true listed
  pub is : b ≡ record { version = v.seat.roster.version; r = v.run.r; prev = v.run.prev; thin = true; listed = listed; digests = []; out = [] }

-- All servers have signed the body that the server signed.
pub record IsAgreed (v : ServerView) (b : Body) : Type 0 where
  pub stage : v.run.stage ≡ stages.Signed
  pub signs : (j : ℕ) → j < servers_in v → statement_of v.run.kept 6 j ≡ Some (kinds.Sign b)

-- ---- what stands in the way

-- a different statement of this kind is kept under the server's own number
abbrev pub Conflicts : ServerView → Statement → Statement → Type 0
Conflicts v s other = (statement_of v.run.kept (kind_byte s) v.seat.number ≡ Some other) × (other ≢ s)

-- nothing, or the same, is kept there
abbrev pub IsFree : ServerView → Statement → Type 0
IsFree v s = (other : Statement) → statement_of v.run.kept (kind_byte s) v.seat.number ≡ Some other → other ≡ s

-- server j is the least that signed another body than b
pub record IsFirstAgainst (v : ServerView) (b : Body) (j : ℕ) (other : Body) : Type 0 where
  pub within : j < servers_in v
  pub signed : statement_of v.run.kept 6 j ≡ Some (kinds.Sign other)
  pub differs : other ≢ b
  pub before : (x : ℕ) (c : Body) → x < j → statement_of v.run.kept 6 x ≡ Some (kinds.Sign c) → c ≡ b

-- no server signed another body
abbrev pub IsUnopposed : ServerView → Body → Type 0
IsUnopposed v b = (x : ℕ) (c : Body) → x < servers_in v → statement_of v.run.kept 6 x ≡ Some (kinds.Sign c) → c ≡ b

abbrev pub spoiled_twice : ℕ → Statement → Statement → Act
spoiled_twice j kept came = acts.Spoiled (record { 0 = j }) reasons.Twice (statement_bytes kept) (statement_bytes came)

abbrev pub spoiled_body : ℕ → Body → Body → Act
spoiled_body j own given = acts.Spoiled (record { 0 = j }) reasons.Body (body_bytes own) (body_bytes given)

-- ---- one step

-- what is kept with one statement more of the server itself, where none of the kind is kept under its number
abbrev pub with_own : Option SaidView → List SaidView → SaidView → List SaidView
with_own None kept own = kept ++ own ∷ []
with_own (Some other) kept own = kept

-- the server signs and keeps a statement of its round, and uses a leaf that it set aside
abbrev pub says : ServerView → Statement → Stage → Option Sum → ServerView
says v s stage sum =
    record (with_signed v s) {
      aside = v.aside - 1;
      run = record v.run { stage = stage; sum = sum; kept = with_own (kept_of v.run.kept (kind_byte s) v.seat.number) v.run.kept (said_next v s) };
    }

-- the sum that the place was for is made
abbrev pub unbent : ServerView → ServerView
unbent v = record v { bend = None }

-- what is kept of a body with data that was signed
abbrev pub past_with : Sum → Body → Past
past_with sum b = record { body = b; s = sum.s; own = sum.own }

-- what is kept of one without data
abbrev pub thin_past : Body → Past
thin_past b = record { body = b; s = []; own = [] }

abbrev pub with_past : ServerView → Past → ServerView
with_past v past = record v { pasts = v.pasts ++ past ∷ [] }

-- a leaf is left
abbrev pub HasLeaf : ServerView → Type 0
HasLeaf v = length v.signed < leaf_count v.key

-- The certificate of the body with the signatures that are kept, by server.
pub record IsCertificateOf (v : ServerView) (b : Body) (c : CertificateView) : Type 0 where
  pub signatures : List (List ℕ)
  pub certificate : IsCertificate c
  pub under : IsCertificateUnder v.seat.roster c
  pub body : c.body ≡ b
  pub bytes : c.bytes ≡ payload_bytes (payloads.Certificate b signatures)
  pub each : length signatures ≡ servers_in v
  pub kept : (j : ℕ) (signature : List ℕ) → slice_get signatures j ≡ Some signature
      → option_map (λ s. s.signature) (kept_of v.run.kept 6 j) ≡ Some signature

-- the certificate is held, and the run ends
abbrev pub certified : ServerView → CertificateView → ServerView
certified v c = record (ended v) { chain = record v.chain { held = with_held c.body v.chain.held } }

-- One step: what is due is signed and posted, or what stands in its way ends the run, or the round is certified.
pub data Step (v : ServerView) (did : List Act) (after : ServerView) : Type 0 where
  commits : (sum : Sum) → IsCommitDue v sum → IsFree v (commitment_of v sum) → HasLeaf v
      → did ≡ post_next v (others_of v.seat) (commitment_of v sum) ∷ []
      → after ≡ unbent (says v (commitment_of v sum) stages.Committed (Some sum)) → Step v did after
  reveals : (sum : Sum) → IsRevealDue v sum → IsFree v (kinds.Reveal v.run.r sum.s) → HasLeaf v
      → did ≡ post_next v (others_of v.seat) (kinds.Reveal v.run.r sum.s) ∷ []
      → after ≡ says v (kinds.Reveal v.run.r sum.s) stages.Revealed (Some sum) → Step v did after
  signs : (sum : Sum) (b : Body) → IsBodyDue v sum b → IsUnopposed v b → HasLeaf v
      → did ≡ post_next v (others_of v.seat) (kinds.Sign b) ∷ []
      → after ≡ with_past (says v (kinds.Sign b) stages.Signed (Some sum)) (past_with sum b) → Step v did after
  signs_thin : (b : Body) → IsThinDue v b → IsUnopposed v b → HasLeaf v
      → did ≡ post_next v (others_of v.seat) (kinds.Sign b) ∷ []
      → after ≡ with_past (says v (kinds.Sign b) stages.Signed v.run.sum) (thin_past b) → Step v did after
  certifies : (b : Body) (c : CertificateView) → IsAgreed v b → IsCertificateOf v b c → CanFollow v.chain c.body
      → did ≡ acts.Certified c ∷ acts.Post (everyone_of v.seat) c.bytes ∷ []
      → after ≡ certified v c → Step v did after
  commit_conflicts : (sum : Sum) (other : Statement) → IsCommitDue v sum → Conflicts v (commitment_of v sum) other
      → did ≡ spoiled_twice v.seat.number other (commitment_of v sum) ∷ [] → after ≡ unbent (ended v) → Step v did after
  reveal_conflicts : (sum : Sum) (other : Statement) → IsRevealDue v sum → Conflicts v (kinds.Reveal v.run.r sum.s) other
      → did ≡ spoiled_twice v.seat.number other (kinds.Reveal v.run.r sum.s) ∷ [] → after ≡ ended v → Step v did after
  body_opposed : (sum : Sum) (b : Body) (j : ℕ) (other : Body) → IsBodyDue v sum b → IsFirstAgainst v b j other
      → did ≡ spoiled_body j b other ∷ [] → after ≡ ended v → Step v did after
  thin_opposed : (b : Body) (j : ℕ) (other : Body) → IsThinDue v b → IsFirstAgainst v b j other
      → did ≡ spoiled_body j b other ∷ [] → after ≡ ended v → Step v did after

-- Steps of a round that runs, one after the other.
pub data Steps : ServerView → List Act → ServerView → Type 0 where
  no_step : {v : ServerView} {did : List Act} {after : ServerView} → did ≡ [] → after ≡ v → Steps v did after
  one_more : {v : ServerView} {did : List Act} {after : ServerView} (first rest : List Act) (between : ServerView) → v.run.is_running ≡ true → Step v first between → Steps between rest after
      → did ≡ first ++ rest → Steps v did after

-- no step is possible
abbrev pub Stands : ServerView → Type 0
Stands v = (did : List Act) (after : ServerView) → ¬ Step v did after

-- The server goes on as far as it can: until the run has ended, or no step is possible.
pub record GoesOn (v : ServerView) (did : List Act) (after : ServerView) : Type 0 where
  pub steps : Steps v did after
  pub stands : after.run.is_running ≡ true → Stands after
