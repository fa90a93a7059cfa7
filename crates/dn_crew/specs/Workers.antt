-- What the workers of a live run did.
use Rattle.std.specs.Prelude.{◌≡◌, ℕ, ◌+◌, ◌-◌, ◌*◌, ◌⊎◌, ◌<◌, ◌≤◌, List, [], ◌∷◌, length, Some, None, IfSome, IfOk, Result, slice_get}
use Rattle.dn_counts.specs.Counts.{times}
use Rattle.dn_wire.specs.declared.ids.ServerId.{ServerId}
use Rattle.dn_roster.specs.Roster.{RosterView}
use Rattle.dn_server.specs.Server.{ServerView}
use Rattle.dn_turns.specs.Logs.{GrowsBelow}
use Rattle.dn_turns.specs.Turns.{LockId, PassView}
use Rattle.dn_board.specs.declared.letters.Letter.{Letter}
use Rattle.dn_board.specs.declared.post.Post.{Post}
use Rattle.dn_board.specs.Reads.{last_place}
use Rattle.dn_crew.specs.Live.{server_of, letters_between, payloads_of, posts_under, GivesFrom, Gives}
use Rattle.dn_memory.specs.declared.NoMemory.{NoMemory}
use Rattle.dn_crew.specs.declared.working.Worker.{Worker}

-- each post is this server's
abbrev pub AllBy : ServerId → List Post → Type 0
AllBy author [] = Unit {0}
AllBy author (p ∷ own) = (p.author ≡ author) × AllBy author own

-- each post had read no more than n entries
abbrev pub AllLow : ℕ → List Post → Type 0
AllLow n [] = Unit {0}
AllLow n (p ∷ own) = (p.read ≤ n) × AllLow n own

-- the post that a worker gives
abbrev pub post_of : ServerView → ℕ → List (ℕ × Post) → List Letter → Post
post_of core number log made = record { author = server_of core; read = last_place number log; letters = made }

module _ (lock : LockId) (roster : RosterView) (servers : List ServerId) (first : List Letter) (w : ℕ) (v : ServerView) where
  -- what the log has of the worker with number w after these turns, where its core was v before; the core as it is now, and what it read in its last turn
  pub record HasTurned (turns : ℕ) (seen : List (ℕ × Post)) (core : ServerView) (inbox : List (List ℕ)) : Type 0 where
    pub turns_are : length (posts_under w seen) ≡ turns
    pub author : AllBy (server_of v) (posts_under w seen)
    pub low : AllLow (length seen) (posts_under w seen)
    pub below : GrowsBelow lock.passes [] seen
    pub from : ℕ
    pub given : GivesFrom roster servers first seen v 0 (posts_under w seen) core from
    pub inbox_is : inbox ≡ payloads_of (letters_between first seen v.seat.number from (last_place w seen))

  -- the worker after these turns
  pub record IsAt (turns : ℕ) (p : PassView Post (List Letter)) (core : ServerView) (inbox : List (List ℕ)) : Type 0 where
    pub lock_is : p.lock ≡ lock
    pub idle : p.turn ≡ None
    pub base_is : p.base ≡ Some first
    pub numbers : p.numbers ≡ w ∷ []
    pub inside : w < lock.passes
    pub few : p.drawn ≤ turns
    pub alone : lock.passes ≡ 1 → p.full ≡ None
    pub seat : core.seat ≡ v.seat
    pub turned : p.full ≡ None → HasTurned turns p.seen core inbox

  -- what the log has of the worker after all its turns
  pub record HasPosted (turns : ℕ) (log : List (ℕ × Post)) : Type 0 where
    pub turns_are : length (posts_under w log) ≡ turns
    pub author : AllBy (server_of v) (posts_under w log)
    pub low : AllLow (length log) (posts_under w log)
    pub gives : Gives roster servers first log v (posts_under w log)

module _ (lock : LockId) (roster : RosterView) (servers : List ServerId) (first : List Letter) (cores : List ServerView) where
  -- the number of worker k: the last pass is with the first worker
  abbrev pub number_of : ℕ → ℕ
  number_of k = length cores - 1 - k

  -- worker k after these turns, with the core of its number
  abbrev pub IsWorker : ℕ → ℕ → Worker → Type 0
  IsWorker turns k x = (v : ServerView) × (slice_get cores (number_of k) ≡ Some v) × IsAt lock roster servers first (number_of k) v turns x.pass x.core x.inbox.items

  -- worker k before its first turn
  abbrev pub Begins : ℕ → Worker → Type 0
  Begins k x = (slice_get cores (number_of k) ≡ Some x.core) × IsAt lock roster servers first (number_of k) x.core 0 x.pass x.core x.inbox.items

  -- the numbers of the passes that have met: 0, and the last k
  abbrev pub HasMet : ℕ → ℕ → Type 0
  HasMet k w = (w < length cores) × ((w ≡ 0) ⊎ (length cores ≤ w + k))

  -- a pass that stands for these
  pub record IsMet (turns k : ℕ) (p : PassView Post (List Letter)) : Type 0 where
    pub lock_is : p.lock ≡ lock
    pub idle : p.turn ≡ None
    pub base_is : p.base ≡ Some first
    pub count : length p.numbers ≡ k + 1
    pub few : p.drawn ≤ (k + 1) * 64
    pub full : length p.numbers ≡ lock.passes → p.full ≡ None
    pub below : p.full ≡ None → GrowsBelow lock.passes [] p.seen
    pub each : (w : ℕ) (v : ServerView) → HasMet k w → slice_get cores w ≡ Some v → (0 < times w p.numbers) × (p.full ≡ None → HasPosted lock roster servers first w v turns p.seen)

-- the first n of the workers have the last n passes and cores, the last first
abbrev pub ArePaired : List (PassView Post (List Letter)) → List ServerView → ℕ → List Worker → Type 0
ArePaired passes cores n workers = (k : ℕ) → k < n → IfSome (slice_get workers k) (λ x. (slice_get passes (length cores - 1 - k) ≡ Some x.pass) × (slice_get cores (length cores - 1 - k) ≡ Some x.core) × (x.inbox.items ≡ []))

-- the workers have worked, each so many turns
pub record AreDone (lock : LockId) (roster : RosterView) (servers : List ServerId) (first : List Letter) (cores : List ServerView) (turns : ℕ) (done : List (Result Worker NoMemory)) : Type 0 where
  pub long : length done ≡ length cores
  pub some : 1 ≤ length cores
  pub few : length cores ≤ 16
  pub turns_few : turns ≤ 64
  pub passes : lock.passes ≡ length cores
  pub workers : (k : ℕ) → IfSome (slice_get done k) (λ r. IfOk r (IsWorker lock roster servers first cores turns k))

-- the workers begin
pub record CanBegin (lock : LockId) (roster : RosterView) (servers : List ServerId) (first : List Letter) (cores : List ServerView) (workers : List Worker) : Type 0 where
  pub long : length workers ≡ length cores
  pub begins : (k : ℕ) → IfSome (slice_get workers k) (Begins lock roster servers first cores k)
