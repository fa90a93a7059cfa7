-- What a server answers to openings of servers, to accusations, and to what clients answer to challenges.
use Rattle.std.specs.Prelude.{◌≡◌, ℕ, List, [], map, filter, Option, Some, None, IsPermutation, IsSorted}
use Rattle.std.specs.Ordering.{nat_cmp}
use Rattle.dn_wire.specs.declared.ids.Round.{Round}
use Rattle.dn_wire.specs.declared.ids.SignerId.{SignerId}
use Rattle.dn_wire.specs.declared.ids.SlotId.{SlotId}
use Rattle.dn_record_types.specs.declared.statement.Statement.{Statement}
use Rattle.dn_record_types.specs.declared.statement.Statement.TheVariants as kinds
use Rattle.dn_seal.specs.Dealt.{server, client}
use Rattle.dn_seal.specs.Said.{SaidView}
use Rattle.dn_cert.specs.Chain.{Holds}
use Rattle.dn_trace.specs.Trial.{Says}
use Rattle.dn_server.specs.declared.act.Act.{Act}
use Rattle.dn_server.specs.declared.answer.Answer.{Answer}
use Rattle.dn_server.specs.declared.answer.Reason.TheVariants as reasons
use Rattle.dn_server.specs.declared.places.Place.{Place}
use Rattle.dn_server.specs.Answers.{ignored, does}
use Rattle.dn_server.specs.Server.{ServerView}
use Rattle.dn_openings.specs.Evidence.{is_opening, with_evidence}
use Rattle.dn_openings.specs.Challenging.{LooksAtAll}
use Rattle.dn_openings.specs.Accusing.{Accuses}

-- the round that a statement opens a place of, or all places; nothing for other statements
abbrev pub round_opened : Statement → Option Round
round_opened (kinds.Submission r prev i d) = None
round_opened (kinds.Receipt r i d t) = None
round_opened (kinds.Inventory v) = None
round_opened (kinds.Commit r d) = None
round_opened (kinds.Reveal r s) = None
round_opened (kinds.Sign b) = None
round_opened (kinds.PadBits r k bits) = Some r
round_opened (kinds.Shown r s shown) = Some r
round_opened (kinds.Accusation r s k) = None
round_opened (kinds.Rebuttal r k j seed e) = None
round_opened (kinds.Concede r k) = None

-- the places of round r, of those opened, that the statement opens too, in ascending order
pub record AreTouched (opened : List Place) (r : Round) (s : Statement) (places : List Place) : Type 0 where
  pub numbers : List ℕ
  pub are : IsPermutation (map (λ p. p.k) (filter (λ p. is_opening p.r p.k s) opened)) numbers
  pub sorted : IsSorted nat_cmp numbers
  pub of_round : places ≡ map (λ k. record { r = r; k = k }) numbers

-- A server's pad bits or ciphertexts of round r come.
pub data HearsOpening (v : ServerView) (r : Round) (said : SaidView) (answer : Answer) (after : ServerView) : Type 0 where
  not_held : ¬ Holds v.chain r.0 → answer ≡ ignored reasons.Body → after ≡ v → HearsOpening v r said answer after
  repeats : Holds v.chain r.0 → Says v.evidence said.signer said.statement → answer ≡ ignored reasons.Repeat → after ≡ v
      → HearsOpening v r said answer after
  keeps : (places : List Place) (did : List Act) → Holds v.chain r.0 → ¬ Says v.evidence said.signer said.statement
      → AreTouched v.opened r said.statement places → LooksAtAll (with_evidence v said) places did after
      → answer ≡ does did → HearsOpening v r said answer after

-- A client's answer to a challenge comes.
pub data HearsAnswer (v : ServerView) (said : SaidView) (answer : Answer) (after : ServerView) : Type 0 where
  repeats_it : Says v.evidence said.signer said.statement → answer ≡ ignored reasons.Repeat → after ≡ v → HearsAnswer v said answer after
  keeps_it : ¬ Says v.evidence said.signer said.statement → answer ≡ does [] → after ≡ with_evidence v said → HearsAnswer v said answer after

abbrev pub IsByServer : SignerId → Type 0
IsByServer who = (j : ℕ) × (who ≡ server j)

abbrev pub IsByClient : SignerId → Type 0
IsByClient who = (i : ℕ) × (who ≡ client i)

-- a server has no use for the statement, by this signer: it is no statement of a round, no opening of a server, no accusation, and no answer of a
-- client
abbrev pub IsOfNoUse : SignerId → Statement → Type 0
IsOfNoUse who (kinds.Submission r prev i d) = Unit {0}
IsOfNoUse who (kinds.Receipt r i d t) = Unit {0}
IsOfNoUse who (kinds.Inventory v) = ⊥
IsOfNoUse who (kinds.Commit r d) = ⊥
IsOfNoUse who (kinds.Reveal r s) = ⊥
IsOfNoUse who (kinds.Sign b) = ⊥
IsOfNoUse who (kinds.PadBits r k bits) = ¬ IsByServer who
IsOfNoUse who (kinds.Shown r s shown) = ¬ IsByServer who
IsOfNoUse who (kinds.Accusation r s k) = ⊥
IsOfNoUse who (kinds.Rebuttal r k j seed e) = ¬ IsByClient who
IsOfNoUse who (kinds.Concede r k) = ¬ IsByClient who

-- a rebuttal or a concession
abbrev pub IsAnswer : Statement → Type 0
IsAnswer (kinds.Submission r prev i d) = ⊥
IsAnswer (kinds.Receipt r i d t) = ⊥
IsAnswer (kinds.Inventory v) = ⊥
IsAnswer (kinds.Commit r d) = ⊥
IsAnswer (kinds.Reveal r s) = ⊥
IsAnswer (kinds.Sign b) = ⊥
IsAnswer (kinds.PadBits r k bits) = ⊥
IsAnswer (kinds.Shown r s shown) = ⊥
IsAnswer (kinds.Accusation r s k) = ⊥
IsAnswer (kinds.Rebuttal r k j seed e) = Unit {0}
IsAnswer (kinds.Concede r k) = Unit {0}

-- A statement comes that is none that servers make to each other of a round that runs.
pub data HearsEvidence (v : ServerView) (said : SaidView) (answer : Answer) (after : ServerView) : Type 0 where
  of_no_use : IsOfNoUse said.signer said.statement → answer ≡ ignored reasons.Kind → after ≡ v → HearsEvidence v said answer after
  opening : (r : Round) → IsByServer said.signer → round_opened said.statement ≡ Some r → HearsOpening v r said answer after
      → HearsEvidence v said answer after
  accusation : (r : Round) (slot : SlotId) (k : ℕ) → said.statement ≡ kinds.Accusation r slot k → Accuses v r said answer after
      → HearsEvidence v said answer after
  answers : IsByClient said.signer → IsAnswer said.statement → HearsAnswer v said answer after → HearsEvidence v said answer after
