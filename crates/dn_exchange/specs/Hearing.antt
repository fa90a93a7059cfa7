-- What a server answers to a statement that a server made of a round, and what it is afterwards.
use Rattle.std.specs.Prelude.{◌≡◌, ◌≢◌, ℕ, ◌<◌, ◌++◌, ◌⊎◌, Bool, true, false, List, [], ◌∷◌, length, Option, Some, None, MatchOption, slice_get}
use Rattle.std.specs.Int.{w64, to_be_bytes}
use Rattle.dn_wire.specs.declared.ids.Round.{Round}
use Rattle.dn_record_types.specs.declared.body.Body.{Body}
use Rattle.dn_record_types.specs.declared.inventory.Entry.{Entry}
use Rattle.dn_record_types.specs.declared.inventory.Inventory.{Inventory}
use Rattle.dn_record_types.specs.declared.statement.Statement.{Statement}
use Rattle.dn_record_types.specs.declared.statement.Statement.TheVariants as kinds
use Rattle.dn_records.specs.Records.{body_bytes, kind_byte}
use Rattle.dn_seal.specs.Said.{SaidView}
use Rattle.dn_cert.specs.Signed.{EntryVerifies}
use Rattle.dn_server.specs.declared.act.Act.{Act}
use Rattle.dn_server.specs.declared.act.Act.TheVariants as acts
use Rattle.dn_server.specs.declared.act.SpoilReason.{SpoilReason}
use Rattle.dn_server.specs.declared.act.SpoilReason.TheVariants as spoils
use Rattle.dn_server.specs.declared.answer.Answer.{Answer}
use Rattle.dn_server.specs.declared.answer.Answer.TheVariants as answers
use Rattle.dn_server.specs.declared.answer.Reason.TheVariants as reasons
use Rattle.dn_server.specs.declared.run.Run.{Run}
use Rattle.dn_server.specs.declared.run.Stage.TheVariants as stages
use Rattle.dn_exchange.specs.declared.hearing.Found.{Found}
use Rattle.dn_server.specs.Justified.{digest_by}
use Rattle.dn_server.specs.Server.{ServerView, course_of, kept_of, statement_of, ended}
use Rattle.dn_rounds.specs.Going.{GoesOn, spoiled_twice}
use Rattle.dn_server.specs.Answers.{ignored, does}

-- a number, as a fault tells it
abbrev pub number_bytes : ℕ → List ℕ
number_bytes n = to_be_bytes w64 n

-- what was kept, or due, and what came
pub record Differing : Type 0 where
  pub reason : SpoilReason
  pub kept : List ℕ
  pub came : List ℕ

-- the entry at this place is the first of the inventory that doesn't verify
pub record IsFirstFalse (v : ServerView) (inventory : Inventory) (at : ℕ) : Type 0 where
  pub entry : Entry
  pub there : slice_get inventory.entries at ≡ Some entry
  pub false_one : ¬ EntryVerifies v.seat.roster inventory.r inventory.prev entry
  pub before : (k : ℕ) (e : Entry) → k < at → slice_get inventory.entries k ≡ Some e → EntryVerifies v.seat.roster inventory.r inventory.prev e

-- each entry of the inventory verifies
abbrev pub AllVerify : ServerView → Inventory → Type 0
AllVerify v inventory = (k : ℕ) (e : Entry) → slice_get inventory.entries k ≡ Some e → EntryVerifies v.seat.roster inventory.r inventory.prev e

-- It is the server itself that made the statement, and it is committed to its own ciphertext, which it will reveal: another ciphertext under
-- its number is then told against its own.
abbrev pub IsOwnCommitted : ServerView → ℕ → Type 0
IsOwnCommitted v j = (j ≡ v.seat.number) × (v.run.stage ≡ stages.Committed)

-- The fault of a statement of server j in the round that runs, by its kind: the first of these that is so.
abbrev pub HasFault : ServerView → ℕ → Statement → Differing → Type 0
HasFault v j (kinds.Submission r prev i d) fault = ⊥
HasFault v j (kinds.Receipt r i d t) fault = ⊥
HasFault v j (kinds.Inventory inventory) fault =
    ((inventory.prev ≢ v.run.prev) × (fault ≡ record { reason = spoils.Prev; kept = number_bytes v.run.prev.0; came = number_bytes inventory.prev.0 }))
    ⊎ ((at : ℕ) × (inventory.prev ≡ v.run.prev) × IsFirstFalse v inventory at
    × (fault ≡ record { reason = spoils.Entry; kept = number_bytes at; came = number_bytes (length inventory.entries) }))
HasFault v j (kinds.Commit r d) fault =
    (s : List Bool) × (statement_of v.run.kept 5 j ≡ Some (kinds.Reveal r s)) × (d ≢ digest_by (course_of v.run) j s)
    × (fault ≡ record { reason = spoils.Commit; kept = d; came = digest_by (course_of v.run) j s })
HasFault v j (kinds.Reveal r s) fault =
    ((length s ≢ v.run.bits) × (fault ≡ record { reason = spoils.Length; kept = number_bytes v.run.bits; came = number_bytes (length s) }))
    ⊎ ((d : List ℕ) × (length s ≡ v.run.bits) × (¬ IsOwnCommitted v j) × (statement_of v.run.kept 4 j ≡ Some (kinds.Commit r d))
    × (d ≢ digest_by (course_of v.run) j s)
    × (fault ≡ record { reason = spoils.Commit; kept = d; came = digest_by (course_of v.run) j s }))
HasFault v j (kinds.Sign b) fault =
    (own : Body) × (v.run.stage ≡ stages.Signed) × (statement_of v.run.kept 6 v.seat.number ≡ Some (kinds.Sign own)) × (b ≢ own)
    × (fault ≡ record { reason = spoils.Body; kept = body_bytes own; came = body_bytes b })
HasFault v j (kinds.PadBits r k bs) fault = ⊥
HasFault v j (kinds.Shown r s xs) fault = ⊥
HasFault v j (kinds.Accusation r s k) fault = ⊥
HasFault v j (kinds.Rebuttal r k x seed e) fault = ⊥
HasFault v j (kinds.Concede r k) fault = ⊥

-- The statement of server j in the round that runs has no fault, by its kind.
abbrev pub IsFaultless : ServerView → ℕ → Statement → Type 0
IsFaultless v j (kinds.Inventory inventory) = (inventory.prev ≡ v.run.prev) × AllVerify v inventory
IsFaultless v j (kinds.Commit r d) = (s : List Bool) → statement_of v.run.kept 5 j ≡ Some (kinds.Reveal r s) → d ≡ digest_by (course_of v.run) j s
IsFaultless v j (kinds.Reveal r s) =
    (length s ≡ v.run.bits)
    × ((d : List ℕ) → ¬ IsOwnCommitted v j → statement_of v.run.kept 4 j ≡ Some (kinds.Commit r d) → d ≡ digest_by (course_of v.run) j s)
IsFaultless v j (kinds.Sign b) =
    (own : Body) → v.run.stage ≡ stages.Signed → statement_of v.run.kept 6 v.seat.number ≡ Some (kinds.Sign own) → b ≡ own
IsFaultless v j _ = Unit {0}

-- the server keeps what was said
abbrev pub with_kept : ServerView → SaidView → ServerView
with_kept v said = record v { run = record v.run { kept = v.run.kept ++ said ∷ [] } }

-- a statement of round r that server j made comes
pub data HearsRound (v : ServerView) (j : ℕ) (r : Round) (said : SaidView) (answer : Answer) (after : ServerView) : Type 0 where
  is_early : v.run.r.0 < r.0 → answer ≡ answers.Early → after ≡ v → HearsRound v j r said answer after
  is_past : r.0 < v.run.r.0 → answer ≡ ignored reasons.Old → after ≡ v → HearsRound v j r said answer after
  is_idle : r ≡ v.run.r → v.run.is_running ≡ false → answer ≡ ignored reasons.Idle → after ≡ v → HearsRound v j r said answer after
  repeats : r ≡ v.run.r → v.run.is_running ≡ true → statement_of v.run.kept (kind_byte said.statement) j ≡ Some said.statement
      → answer ≡ ignored reasons.Repeat → after ≡ v → HearsRound v j r said answer after
  is_second : (other : Statement) → r ≡ v.run.r → v.run.is_running ≡ true → statement_of v.run.kept (kind_byte said.statement) j ≡ Some other → other ≢ said.statement
      → answer ≡ does (spoiled_twice j other said.statement ∷ []) → after ≡ ended v → HearsRound v j r said answer after
  is_faulty : (fault : Differing) → r ≡ v.run.r → v.run.is_running ≡ true → kept_of v.run.kept (kind_byte said.statement) j ≡ None
      → HasFault v j said.statement fault
      → answer ≡ does (acts.Spoiled (record { 0 = j }) fault.reason fault.kept fault.came ∷ []) → after ≡ ended (with_kept v said) → HearsRound v j r said answer after
  goes_on : (did : List Act) → r ≡ v.run.r → v.run.is_running ≡ true → kept_of v.run.kept (kind_byte said.statement) j ≡ None
      → IsFaultless v j said.statement → GoesOn (with_kept v said) did after
      → answer ≡ does did → HearsRound v j r said answer after

-- ---- words of the bodies

-- the fault as it was found
abbrev pub told_of : Found → Differing
told_of found = record { reason = found.reason; kept = found.kept.items; came = found.came.items }

-- what was found of a statement: no fault, or its fault
abbrev pub FaultFound : ServerView → ℕ → Statement → Option Found → Type 0
FaultFound v j s found = MatchOption found (IsFaultless v j s) (λ d. HasFault v j s (told_of d))

-- what was found of a ciphertext: it is the one that was committed to, or how it differs
abbrev pub DiffersFrom : Run → ℕ → List ℕ → List Bool → Option Found → Type 0
DiffersFrom run j committed s found =
    MatchOption found (committed ≡ digest_by (course_of run) j s)
    (λ d. (committed ≢ digest_by (course_of run) j s) × (told_of d ≡ record { reason = spoils.Commit; kept = committed; came = digest_by (course_of run) j s }))

-- What becomes of a statement of the round that is new: it is kept, and its fault ends the run, or the server goes on.
abbrev pub KeepsHeard : ServerView → ℕ → SaidView → Answer → ServerView → Type 0
KeepsHeard v j said answer after =
    ((fault : Differing) × HasFault v j said.statement fault
    × (answer ≡ does (acts.Spoiled (record { 0 = j }) fault.reason fault.kept fault.came ∷ [])) × (after ≡ ended (with_kept v said)))
    ⊎ ((did : List Act) × IsFaultless v j said.statement × GoesOn (with_kept v said) did after × (answer ≡ does did))
