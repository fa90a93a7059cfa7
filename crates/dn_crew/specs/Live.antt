-- What the workers of a live run make: each server's core is handed the letters that reach it, in the order of the board, and what it posts
-- to the servers of the run are its letters.
use Rattle.std.specs.Prelude.{◌≡◌, ◌≢◌, ◌⊎◌, ℕ, ◌-◌, ◌==◌, cond, List, [], ◌∷◌, ◌++◌, map, take, drop, filter, Option, Some, None, IfSome, slice_get}
use Rattle.std.specs.List.{filter_map, flat_map, list_any}
use Rattle.dn_wire.specs.declared.ids.Member.{Member}
use Rattle.dn_wire.specs.declared.ids.Member.TheVariants as members
use Rattle.dn_wire.specs.declared.ids.ServerId.{ServerId}
use Rattle.dn_record_types.specs.declared.payload.Payload.{Payload}
use Rattle.dn_records.specs.Records.{payload_bytes, IsPayload}
use Rattle.dn_roster.specs.Roster.{RosterView}
use Rattle.dn_seal.specs.Said.{IsUnder}
use Rattle.dn_cert.specs.Certificate.{IsCertificateUnder}
use Rattle.dn_cert.specs.declared.opened.Opened.{Opened}
use Rattle.dn_cert.specs.declared.opened.Opened.TheVariants as opened
use Rattle.dn_cert.specs.declared.payload_fault.PayloadFault.{PayloadFault}
use Rattle.dn_cert.specs.declared.payload_fault.PayloadFault.TheVariants as faults
use Rattle.dn_cert.specs.Opening.{IsOpened, IsUnopenedPayload}
use Rattle.dn_server.specs.declared.act.Act.{Act}
use Rattle.dn_server.specs.declared.act.Act.TheVariants as acts
use Rattle.dn_server.specs.declared.answer.Answer.{Answer}
use Rattle.dn_server.specs.declared.answer.Answer.TheVariants as answers
use Rattle.dn_server.specs.declared.answer.Reason.TheVariants as reasons
use Rattle.dn_server.specs.Answers.{ignored}
use Rattle.dn_server.specs.Server.{ServerView}
use Rattle.dn_exchange.specs.Submitting.{IsSubmission, TakesSubmission}
use Rattle.dn_exchange.specs.Listening.{Hears}
use Rattle.dn_exchange.specs.Ending.{HoldsOn}
use Rattle.dn_turns.specs.Logs.{under}
use Rattle.dn_turns.specs.Turns.{LockId, PassView, IsFresh}
use Rattle.dn_board.specs.declared.letters.Letter.{Letter}
use Rattle.dn_board.specs.declared.post.Post.{Post}

-- ---- one letter

-- what a payload carries was said, or certified, in the group
abbrev pub IsOfGroup : RosterView → Opened → Type 0
IsOfGroup roster (opened.Submission cipher said) = IsUnder roster said × IsSubmission said.statement
IsOfGroup roster (opened.Plain said) = IsUnder roster said
IsOfGroup roster (opened.Certificate c) = IsCertificateUnder roster c
IsOfGroup roster (opened.Challenge c) = Unit {0}

-- what a server's core answers to what a payload carries; it has no use for a challenge
abbrev pub Answers : ServerView → Opened → Answer → ServerView → Type 0
Answers v (opened.Submission cipher said) answer w = TakesSubmission v said cipher answer w
Answers v (opened.Plain said) answer w = Hears v said answer w
Answers v (opened.Certificate c) answer w = HoldsOn v c answer w
Answers v (opened.Challenge c) answer w = (answer ≡ ignored reasons.Kind) × (w ≡ v)

abbrev pub acts_of : Answer → List Act
acts_of (answers.Acts did) = did
acts_of (answers.Ignored reason) = []
acts_of answers.Early = []

-- the core is handed a payload, does this, and is so afterwards; what doesn't open does nothing
abbrev pub IsHanded : RosterView → ServerView → List ℕ → List Act → ServerView → Type 0
IsHanded roster v bytes did w =
    ((p : Payload) × (x : Opened) × (answer : Answer) × IsPayload p × (bytes ≡ payload_bytes p) × IsOpened roster p x × Answers v x answer w × (did ≡ acts_of answer))
    ⊎ ((fault : PayloadFault) × (fault ≢ faults.NoMemory) × IsUnopenedPayload roster bytes fault × (did ≡ []) × (w ≡ v))

-- ---- letters

-- the letter to a member, where it is a server of the run
abbrev pub letter_to : List ServerId → ServerId → List ℕ → Member → Option Letter
letter_to servers from payload (members.Client i) = None
letter_to servers from payload (members.Server j) = cond (list_any (λ s. s.0 == j.0) servers) (Some record { from = from; to = j; payload = payload }) None

abbrev pub letters_by : List ServerId → ServerId → Act → List Letter
letters_by servers from (acts.Post to payload) = filter_map (letter_to servers from payload) to
letters_by servers from _ = []

-- the letters that a server's posts are
abbrev pub letters_of : List ServerId → ServerId → List Act → List Letter
letters_of servers from did = flat_map (letters_by servers from) did

abbrev pub server_of : ServerView → ServerId
server_of v = record { 0 = v.seat.number }

-- The core is handed these payloads, in their order, makes these letters, and is so afterwards.
abbrev pub Makes : RosterView → List ServerId → ServerView → List (List ℕ) → List Letter → ServerView → Type 0
Makes roster servers v [] made w = (made ≡ []) × (w ≡ v)
Makes roster servers v (bytes ∷ payloads) made w =
    (u : ServerView) × (did : List Act) × (rest : List Letter) × IsHanded roster v bytes did u × (made ≡ letters_of servers (server_of v) did ++ rest) × Makes roster servers u payloads rest w

-- ---- entries

-- the entries of a board: its first letters, and the letters of each post
abbrev pub entries : List Letter → List (ℕ × Post) → List (List Letter)
entries first posts = first ∷ map (λ p. p.1.letters) posts

abbrev pub itself : List Letter → List Letter
itself letters = letters

-- the letters to server j in the entries with the places from `from` to below `to`, in their order
abbrev pub letters_between : List Letter → List (ℕ × Post) → ℕ → ℕ → ℕ → List Letter
letters_between first posts j from to = filter (λ l. l.to.0 == j) (flat_map itself (take (to - from) (drop from (entries first posts))))

abbrev pub payloads_of : List Letter → List (List ℕ)
payloads_of letters = map (λ l. l.payload) letters

-- ---- posts

-- the posts under a number, in their order
abbrev pub posts_under : ℕ → List (ℕ × Post) → List Post
posts_under number posts = map (λ p. p.1) (under (number ∷ []) posts)

-- The core gave these posts, one after another: the letters of each are those that it makes of the letters to it in the entries from what
-- the post before had read to below what this one has. The first read that is counted from is `from`; at the end the core is w, and the last
-- post had read `to`.
abbrev pub GivesFrom : RosterView → List ServerId → List Letter → List (ℕ × Post) → ServerView → ℕ → List Post → ServerView → ℕ → Type 0
GivesFrom roster servers first posts v from [] w to = (w ≡ v) × (to ≡ from)
GivesFrom roster servers first posts v from (p ∷ own) w to =
    (u : ServerView) × Makes roster servers v (payloads_of (letters_between first posts v.seat.number from p.read)) p.letters u × GivesFrom roster servers first posts u p.read own w to

-- the posts under a number are those that the core gives
abbrev pub Gives : RosterView → List ServerId → List Letter → List (ℕ × Post) → ServerView → List Post → Type 0
Gives roster servers first posts v own = (w : ServerView) × (to : ℕ) × GivesFrom roster servers first posts v 0 own w to

-- the passes of a lock, none of which took a turn yet, where the board has these first letters and no post
abbrev pub AreFresh : LockId → List Letter → List (PassView Post (List Letter)) → Type 0
AreFresh lock first passes = (i : ℕ) → IfSome (slice_get passes i) (IsFresh lock first [] i)
