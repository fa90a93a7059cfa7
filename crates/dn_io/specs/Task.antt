-- How a command ends that reads its input whole and then writes: what it has read then, and what it has written.
use Rattle.std.specs.Prelude.{◌≡◌, ℕ, ◌+◌, ◌<◌, ◌≤◌, List, length, ◌⊎◌}
use Rattle.std.specs.declared.option.Option.{Option}
use Rattle.std.specs.Io.KnownBytes.{Appends, Consumes, Keeps, IsAtEnd}
use Rattle.dn_io.specs.declared.status.Status.{Status}
use Rattle.dn_io.specs.declared.status.Status.TheVariants as status
use Rattle.dn_io.specs.Faults.{Rose}
use Rattle.dn_io.specs.Sink.{AppendsFront}

-- What a command makes of its input: how many bytes of it are read at most, which texts it refuses and with which status, and which
-- output is due to a text.
pub record Task : Type 1 where
  pub limit : ℕ
  pub Refuses : List ℕ → Status → Type 0
  pub Due : List ℕ → List ℕ → Type 0

-- the status of the command on this text, where neither memory nor the outside fails
abbrev pub IsDue : Task → List ℕ → Status → Type 0
IsDue task text status.Ok = (length text ≤ task.limit) × (due : List ℕ) × task.Due text due
IsDue task text (status.NotAccepted line rule) = (length text ≤ task.limit) × task.Refuses text (status.NotAccepted line rule)
IsDue task text (status.BadLine number cause) = (length text ≤ task.limit) × task.Refuses text (status.BadLine number cause)
IsDue task text (status.TooLong limit) = (limit ≡ task.limit) × (task.limit < length text)
IsDue task text status = ⊥

-- what the input has left and the output holds, where they tell it, and how often they failed
pub record Outside : Type 0 where
  pub left : Option (List ℕ)
  pub held : Option (List ℕ)
  pub read_faults : ℕ
  pub write_faults : ℕ

-- the input gave this text, of at most so many bytes, and had no more
pub record Came (limit : ℕ) (before after : Outside) (text : List ℕ) : Type 0 where
  pub within : length text ≤ limit
  pub taken : Consumes before.left after.left text
  pub whole : IsAtEnd after.left

-- the input gave a text, and had no more; it is refused with this status, and nothing was written
abbrev pub CameRefused : Task → Outside → Outside → Status → Type 0
CameRefused task before after s =
    Keeps before.held after.held × (text : List ℕ) × Came task.limit before after text × task.Refuses text s

-- the input gave a text, and had no more, to which this output is due
pub record CameFor (task : Task) (before after : Outside) (due : List ℕ) : Type 0 where
  pub text : List ℕ
  pub came : Came task.limit before after text
  pub is_due : task.Due text due

-- How the command ended with this status, between what the outside was before and after it.
abbrev pub Ends : Task → Outside → Outside → Status → Type 0
Ends task before after status.Ok =
    (due : List ℕ) × CameFor task before after due × Appends before.held after.held due
Ends task before after (status.NotAccepted line rule) = CameRefused task before after (status.NotAccepted line rule)
Ends task before after (status.BadLine number cause) = CameRefused task before after (status.BadLine number cause)
Ends task before after (status.TooLong limit) =
    Keeps before.held after.held × (limit ≡ task.limit)
    × (bytes : List ℕ) × (length bytes ≡ task.limit + 1) × Consumes before.left after.left bytes
Ends task before after status.ReadFault =
    Keeps before.held after.held × Rose before.read_faults after.read_faults
    × (bytes : List ℕ) × (length bytes ≤ task.limit) × Consumes before.left after.left bytes
Ends task before after status.WriteFault =
    Rose before.write_faults after.write_faults
    × (due : List ℕ) × CameFor task before after due × AppendsFront before.held after.held due
Ends task before after status.NoMemory =
    Keeps before.held after.held
    ⊎ ((due : List ℕ) × CameFor task before after due × AppendsFront before.held after.held due)
Ends task before after status.Usage = ⊥

-- How a command ended that reads nothing and to which this output is due: between what the output held, where it tells it, and how
-- often it had failed, before and after it.
abbrev pub EndsUnread : List ℕ → Option (List ℕ) → Option (List ℕ) → ℕ → ℕ → Status → Type 0
EndsUnread due held_before held_after faults_before faults_after status.Ok = Appends held_before held_after due
EndsUnread due held_before held_after faults_before faults_after status.WriteFault =
    Rose faults_before faults_after × AppendsFront held_before held_after due
EndsUnread due held_before held_after faults_before faults_after status.NoMemory = AppendsFront held_before held_after due
EndsUnread due held_before held_after faults_before faults_after status = ⊥
