-- How a command ends that reads its input whole and then writes.
use Rattle.std.proofs.Common.{◌≡◌, ℕ, ◌+◌, List, length, Option, Some, None, Result, Ok, Err, OnErr, ap, subst, inl, inr, refl, arith, length-append}
use Rattle.std.specs.Prelude.{◌⊎◌, IfSome}
use Rattle.std.specs.Io.KnownBytes.{Appends, Keeps, Consumes}
use Rattle.std.proofs.KnownBytes.{Consumes-whole}
use Rattle.dn_io.specs.Faults.{Rose}
use Rattle.dn_io.specs.Sink.{AppendsFront}
use Rattle.dn_io.specs.Reading.{ReadsWhole, CountsRead}
use Rattle.dn_io.specs.Writing.{CountsWrite}
use Rattle.dn_io.specs.Status.{read_status, write_status}
use Rattle.dn_io.specs.declared.status.Status.{Status}
use Rattle.dn_io.specs.declared.status.Status.TheVariants as status
use Rattle.dn_io.specs.declared.reading.ReadEnd.{ReadEnd}
use Rattle.dn_io.specs.declared.reading.ReadEnd.TheVariants as reading
use Rattle.dn_io.specs.declared.writing.WriteEnd.{WriteEnd}
use Rattle.dn_io.specs.declared.writing.WriteEnd.TheVariants as writing
use Rattle.dn_io.specs.Task.{Task, Outside, Came, CameFor, Ends, EndsUnread, IsDue}

unread : {T : Type 0} (items : T → List ℕ) (task : Task) (before after : Outside) (e : ReadEnd) → Keeps before.held after.held
    → ReadsWhole items before.left after.left task.limit (Err e) → CountsRead {T = T} before.read_faults after.read_faults (Err e)
    → Ends task before after (read_status e)
unread items task before after reading.ReadFault keeps read counted = (keeps, counted.1, read.0, read.1, read.2)
unread items task before after (reading.TooLong limit) keeps read counted = (keeps, read.0, read.1, read.2, read.3)
unread items task before after reading.NoMemory keeps read counted = inl keeps

-- the input was not read whole, and nothing was written
pub not_read : {T : Type 0} (r : Result T ReadEnd) (items : T → List ℕ) (task : Task) (before after : Outside) (e : ReadEnd) → r ≡ Err e
    → Keeps before.held after.held → ReadsWhole items before.left after.left task.limit r → CountsRead before.read_faults after.read_faults r
    → Ends task before after (read_status e)
not_read (Ok x) items task before after e is keeps read counted = absurd cc
not_read (Err f) items task before after e is keeps read counted =
    let same : f ≡ e = cc in
    subst (λ x. Ends task before after (read_status x)) same (unread items task before after f keeps read counted)

unwritten : (T : Type 0) (task : Task) (before after : Outside) (due : List ℕ) (e : WriteEnd) → CameFor task before after due
    → AppendsFront before.held after.held due → CountsWrite {T = T} before.write_faults after.write_faults (Err e)
    → Ends task before after (write_status e)
unwritten T task before after due writing.WriteFault came front counted = (counted.1, due, came, front)
unwritten T task before after due writing.NoMemory came front counted = inr (due, came, front)

-- the due output was not written whole
pub not_written : {T : Type 0} (r : Result T WriteEnd) (task : Task) (before after : Outside) (due : List ℕ) (e : WriteEnd) → r ≡ Err e
    → CameFor task before after due → OnErr r (AppendsFront before.held after.held due) → CountsWrite before.write_faults after.write_faults r
    → Ends task before after (write_status e)
not_written (Ok x) task before after due e is came front counted = absurd cc
not_written {T} (Err f) task before after due e is came front counted =
    let same : f ≡ e = cc in
    subst (λ x. Ends task before after (write_status x)) same (unwritten T task before after due f came front counted)

unwritten_unread : (T : Type 0) (due : List ℕ) (old new : Option (List ℕ)) (before after : ℕ) (e : WriteEnd) → AppendsFront old new due
    → CountsWrite {T = T} before after (Err e) → EndsUnread due old new before after (write_status e)
unwritten_unread T due old new before after writing.WriteFault front counted = (counted.1, front)
unwritten_unread T due old new before after writing.NoMemory front counted = front

-- the output of a command that reads nothing was not written whole
pub not_written_unread : {T : Type 0} (r : Result T WriteEnd) (due : List ℕ) (old new : Option (List ℕ)) (before after : ℕ) (e : WriteEnd) → r ≡ Err e
    → OnErr r (AppendsFront old new due) → CountsWrite before after r → EndsUnread due old new before after (write_status e)
not_written_unread (Ok x) due old new before after e is front counted = absurd cc
not_written_unread {T} (Err f) due old new before after e is front counted =
    let same : f ≡ e = cc in
    subst (λ x. EndsUnread due old new before after (write_status x)) same (unwritten_unread T due old new before after f front counted)

-- more came than the limit allows
over : (task : Task) (left after : Option (List ℕ)) (bytes : List ℕ) (limit : ℕ) → limit ≡ task.limit → length bytes ≡ task.limit + 1
    → Consumes left after bytes → IfSome left (λ t. IsDue task t (status.TooLong limit) ⊎ (status.TooLong limit ≡ status.NoMemory))
over task None after bytes limit same long taken = tt
over task (Some text) None bytes limit same long taken = absurd taken
over task (Some text) (Some rest) bytes limit same long taken =
    inl (same, omega (arith, ap length taken, length-append bytes rest, long))

no_memory : (task : Task) (left : Option (List ℕ)) → IfSome left (λ t. IsDue task t status.NoMemory ⊎ (status.NoMemory ≡ status.NoMemory))
no_memory task None = tt
no_memory task (Some text) = inr refl

came_due : (task : Task) (before after : Outside) (text : List ℕ) (s : Status) → Came task.limit before after text → IsDue task text s
    → IfSome before.left (λ t. IsDue task t s ⊎ (s ≡ status.NoMemory))
came_due task before after text s came due =
    Consumes-whole before.left after.left text (λ t. IsDue task t s ⊎ (s ≡ status.NoMemory)) came.taken came.whole (inl due)

-- with no fault of the outside a command ends as its text asks, unless memory is refused
pub completes : (task : Task) (before after : Outside) (s : Status) → Ends task before after s → (Rose before.read_faults after.read_faults → ⊥)
    → (Rose before.write_faults after.write_faults → ⊥) → IfSome before.left (λ t. IsDue task t s ⊎ (s ≡ status.NoMemory))
completes task before after status.Ok h calm still =
    came_due task before after h.1.text status.Ok h.1.came (h.1.came.within, h.0, h.1.is_due)
completes task before after (status.NotAccepted line rule) h calm still =
    came_due task before after h.1 (status.NotAccepted line rule) h.2 (h.2.within, h.3)
completes task before after (status.BadLine number cause) h calm still =
    came_due task before after h.1 (status.BadLine number cause) h.2 (h.2.within, h.3)
completes task before after (status.TooLong limit) h calm still = over task before.left after.left h.2 limit h.1 h.3 h.4
completes task before after status.ReadFault h calm still = absurd (calm h.1)
completes task before after status.WriteFault h calm still = absurd (still h.0)
completes task before after status.NoMemory h calm still = no_memory task before.left
completes task before after status.Usage h calm still = absurd h
