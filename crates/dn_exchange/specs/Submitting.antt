-- What a server answers to a submission, and what it is afterwards.
use Rattle.std.specs.Prelude.{◌≡◌, ◌≢◌, ℕ, ◌<◌, ◌≤◌, ◌⊎◌, Bool, true, false, List, [], ◌∷◌, length, Some, slice_set}
use Rattle.dn_told.specs.declared.told.WindowTold.{WindowTold}
use Rattle.dn_told.specs.declared.told.WindowTold.TheVariants as told
use Rattle.dn_wire.specs.declared.ids.ClientId.{ClientId}
use Rattle.dn_wire.specs.declared.ids.Round.{Round}
use Rattle.dn_wire.specs.declared.ids.SignerId.{SignerId}
use Rattle.dn_wire.specs.declared.ids.SignerId.TheVariants as signers
use Rattle.dn_bits.specs.Bits.{bytes_of}
use Rattle.dn_hash.specs.Digests.{cipher_digest_of}
use Rattle.dn_record_types.specs.declared.statement.Statement.{Statement}
use Rattle.dn_record_types.specs.declared.statement.Statement.TheVariants as kinds
use Rattle.dn_record_types.specs.declared.statement.WordTold.{WordTold}
use Rattle.dn_record_types.specs.declared.statement.WordTold.TheVariants as words
use Rattle.dn_seal.specs.Said.{SaidView}
use Rattle.dn_window.specs.Window.{has_of, with_submission}
use Rattle.dn_server.specs.declared.act.Act.TheVariants as acts
use Rattle.dn_server.specs.declared.answer.Answer.{Answer}
use Rattle.dn_server.specs.declared.answer.Answer.TheVariants as answers
use Rattle.dn_server.specs.declared.answer.Reason.TheVariants as reasons
use Rattle.dn_server.specs.declared.run.Run.{Run}
use Rattle.dn_server.specs.Server.{ServerView, left_of, client_member, post_next, with_signed}
use Rattle.dn_server.specs.Answers.{ignored, does}

-- what a receipt says, where the window is closed or not
abbrev pub word_for : Bool → WordTold
word_for true = words.Late
word_for false = words.Included

-- the same word, as the window's
abbrev pub told_for : Bool → WindowTold
told_for true = told.Late
told_for false = told.Included

-- a submission by its fields, with the signer and the signature of its envelope and the ciphertext that came with it
pub record Submitted : Type 0 where
  pub who : SignerId
  pub r : Round
  pub prev : Round
  pub client : ClientId
  pub digest : List ℕ
  pub signature : List ℕ
  pub cipher : List Bool

-- the envelope and the ciphertext are this submission
pub record IsSubmitted (said : SaidView) (cipher : List Bool) (s : Submitted) : Type 0 where
  pub who : said.signer ≡ s.who
  pub statement : said.statement ≡ kinds.Submission s.r s.prev s.client s.digest
  pub signature : said.signature ≡ s.signature
  pub carried : s.cipher ≡ cipher

-- Why a submission isn't taken in the round that was opened last: the first of these that is so.
pub data IsRefused (run : Run) (s : Submitted) (answer : Answer) : Type 0 where
  is_early : run.r.0 < s.r.0 → answer ≡ answers.Early → IsRefused run s answer
  is_past : (s.r.0 < run.r.0) ⊎ (s.r.0 ≡ 0) → answer ≡ ignored reasons.Old → IsRefused run s answer
  is_others : s.r ≡ run.r → 0 < s.r.0 → s.who ≢ signers.Client s.client → answer ≡ ignored reasons.Key → IsRefused run s answer
  on_other_prev : s.r ≡ run.r → 0 < s.r.0 → s.who ≡ signers.Client s.client → s.prev ≢ run.prev
      → answer ≡ ignored reasons.Prev → IsRefused run s answer
  is_of_other_length : s.r ≡ run.r → 0 < s.r.0 → s.who ≡ signers.Client s.client → s.prev ≡ run.prev → length s.cipher ≢ run.bits
      → answer ≡ ignored reasons.Length → IsRefused run s answer
  is_of_other_digest : s.r ≡ run.r → 0 < s.r.0 → s.who ≡ signers.Client s.client → s.prev ≡ run.prev → length s.cipher ≡ run.bits
      → s.digest ≢ cipher_digest_of s.r.0 s.client.0 (bytes_of s.cipher) → answer ≡ ignored reasons.Digest → IsRefused run s answer

-- the submission is one of the round, by the client itself, and its ciphertext fits
pub record IsFitting (run : Run) (s : Submitted) : Type 0 where
  pub round : s.r ≡ run.r
  pub started : 0 < s.r.0
  pub by_client : s.who ≡ signers.Client s.client
  pub prev : s.prev ≡ run.prev
  pub long : length s.cipher ≡ run.bits
  pub digest : s.digest ≡ cipher_digest_of s.r.0 s.client.0 (bytes_of s.cipher)

abbrev pub receipt_of : ServerView → Submitted → Statement
receipt_of v s = kinds.Receipt s.r s.client s.digest (word_for v.run.window.closed)

-- the run with the client's claim
abbrev pub with_claim : Run → Submitted → Run
with_claim run s = record run {
  window = with_submission run.window s.client.0;
  claims = slice_set run.claims s.client.0 (Some (record { told = word_for run.window.closed; digest = s.digest; signature = s.signature; cipher = s.cipher }));
}

-- A submission that fits claims its client's place, once, and the client gets a signed receipt of what it is told.
pub data Submits (v : ServerView) (s : Submitted) (answer : Answer) (after : ServerView) : Type 0 where
  is_refused : IsRefused v.run s answer → after ≡ v → Submits v s answer after
  repeats : IsFitting v.run s → has_of v.run.window s.client.0 ≡ true
      → answer ≡ does (acts.Told s.client s.r told.Repeat ∷ []) → after ≡ v → Submits v s answer after
  finds_no_leaf : IsFitting v.run s → has_of v.run.window s.client.0 ≡ false → left_of v ≤ v.aside
      → answer ≡ ignored reasons.Spent → after ≡ v → Submits v s answer after
  is_claimed : IsFitting v.run s → has_of v.run.window s.client.0 ≡ false → v.aside < left_of v
      → answer ≡ does (acts.Told s.client s.r (told_for v.run.window.closed) ∷ post_next v (client_member s.client.0 ∷ []) (receipt_of v s) ∷ [])
      → after ≡ record (with_signed v (receipt_of v s)) { run = with_claim v.run s } → Submits v s answer after

-- an envelope that holds a submission comes with a ciphertext
abbrev pub TakesSubmission : ServerView → SaidView → List Bool → Answer → ServerView → Type 0
TakesSubmission v said cipher answer after = (s : Submitted) × IsSubmitted said cipher s × Submits v s answer after

-- the statement is a submission
abbrev pub IsSubmission : Statement → Type 0
IsSubmission (kinds.Submission r prev i d) = Unit {0}
IsSubmission _ = ⊥

-- what claiming a client's place does
abbrev pub HasClaimed : ServerView → ClientId → List ℕ → List ℕ → List Bool → Answer → ServerView → Type 0
HasClaimed v client digest signature cipher answer after =
    let s : Submitted = record { who = signers.Client client; r = v.run.r; prev = v.run.prev; client = client; digest = digest; signature = signature; cipher = cipher } in
    (answer ≡ does (acts.Told client v.run.r (told_for v.run.window.closed) ∷ post_next v (client_member client.0 ∷ []) (receipt_of v s) ∷ []))
    × (after ≡ record (with_signed v (receipt_of v s)) { run = with_claim v.run s })
