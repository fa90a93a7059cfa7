-- Calls of clients' cores, from what is done step by step.
use Rattle.std.proofs.Common.{◌≡◌, ◌≢◌, ℕ, true, List, [], ◌∷◌, Option, Some, None, refl, sym, ap, subst, ◌∙◌, ◌⊎◌, inl, inr}
use Rattle.std.specs.Prelude.{slice_set, Result, Ok, Err, IfOk, IfErr}
use Rattle.std.specs.Global.{Vec}
use Rattle.dn_wire.specs.declared.ids.ClientId.{ClientId}
use Rattle.dn_wire.specs.declared.ids.ServerId.{ServerId}
use Rattle.dn_wire.specs.declared.ids.Round.{Round}
use Rattle.dn_client.specs.declared.submitting.Submission.{Submission}
use Rattle.dn_client.specs.declared.submitting.SubmitFault.{SubmitFault}
use Rattle.dn_client.specs.declared.submitting.SubmitFault.TheVariants as submit_faults
use Rattle.dn_client.specs.declared.accusing.AccuseFault.{AccuseFault}
use Rattle.dn_client.specs.declared.accusing.AccuseFault.TheVariants as accuse_faults
use Rattle.dn_client.specs.Client.{ClientView, IsClient}
use Rattle.dn_client.specs.Submitting.{IsSubmitted, IsUnsubmitted}
use Rattle.dn_client.specs.Accusing.{Accuses, IsUnaccused}
use Rattle.dn_report.specs.declared.outcome.Outcome.{Outcome}
use Rattle.dn_report.specs.declared.outcome.Outcome.TheVariants as outcomes
use Rattle.dn_report.specs.declared.words.IgnoredWord.{IgnoredWord}
use Rattle.dn_state.specs.Parts.{PartsView}
use Rattle.dn_state.specs.Words.{submit_word_of, accuse_word_of}
use Rattle.dn_state.specs.Members.{core_at, client_at, Turns, HasNone}
use Rattle.dn_state.specs.Calling.{GivesSubmission, GivesAccusation, PutsSubmission, PutsToServers, SaysText, Submits, AccusesAt, with_text, left_in}
use Rattle.dn_state.specs.Calling.SaysText.{says, rests as silent}
use Rattle.dn_state.specs.Calling.Submits.{submits, refuses, rests}
use Rattle.dn_state.specs.Calling.AccusesAt.{accuses, refuses as declines, rests as calm}
use Rattle.dn_state.proofs.CoreLemmas.{set_none, set_twice}
use Rattle.dn_state.proofs.CallLemmas.{of_clients, stays}

-- ---- a core that is taken out of its place

module _ {A : Type 0} (cores taken : List (Option A)) (k : ℕ) (took : taken ≡ slice_set cores k None) where
  -- there was none
  pub takes_no_core : core_at cores k ≡ None → HasNone cores taken k
  takes_no_core none = record { none = none; same = took ∙ set_none cores k none }

  -- it is put back as another
  pub set_back_as : (put : List (Option A)) (after : A) → put ≡ slice_set taken k (Some after) → put ≡ slice_set cores k (Some after)
  set_back_as put after back = back ∙ ap (λ xs. slice_set xs k (Some after)) took ∙ set_twice cores k None (Some after)

  -- it was called
  pub turns_by : (put : List (Option A)) (call : A → A → Type 0) (before after : A) → core_at cores k ≡ Some before → put ≡ slice_set taken k (Some after)
      → call before after → Turns cores put k call
  turns_by put call before after there back called = record { before = before; after = after; there = there; called = called; kept = set_back_as put after back }

-- ---- what cores answer

pub gives_submission : (r : Round) (given : Result Submission SubmitFault) (before after : ClientView) → IfOk given (λ s. IsSubmitted before r s after)
    → IfErr given (IsUnsubmitted before r) → IfErr given (λ f. f ≢ submit_faults.NoMemory → after ≡ before) → IsClient after → GivesSubmission r before given after
gives_submission r (Ok s) before after is refused same client = (is, client)
gives_submission r (Err f) before after is refused same client = (refused, same)

pub gives_accusation : (r : Round) (k : ℕ) (given : Result (Vec ℕ) AccuseFault) (before after : ClientView) → IfOk given (λ v. Accuses before r k v.items after)
    → IfErr given (IsUnaccused before r k) → IfErr given (λ f. f ≢ accuse_faults.NoMemory → after ≡ before) → IsClient after → GivesAccusation r k before given after
gives_accusation r k (Ok v) before after is refused same client = (is, client)
gives_accusation r k (Err f) before after is refused same client = (refused, same)

-- a core that leaves, if there is one
module _ (cores taken : List (Option ClientView)) (k : ℕ) (took : taken ≡ slice_set cores k None) where
  pub leaves_none : core_at cores k ≡ None → taken ≡ left_in cores k (core_at cores k)
  leaves_none none = subst (λ core. taken ≡ left_in cores k core) (sym none) (took ∙ set_none cores k none)

  pub leaves_some : (put : List (Option ClientView)) (before after : ClientView) → core_at cores k ≡ Some before → after ≡ record before { left = true }
      → put ≡ slice_set taken k (Some after) → put ≡ left_in cores k (core_at cores k)
  leaves_some put before after there left back =
      subst (λ core. put ≡ left_in cores k core) (sym there)
      (set_back_as cores taken k took put after back ∙ ap (λ (x : ClientView). slice_set cores k (Some x)) left)

-- ---- what comes of it

module _ (old : PartsView) (i : ClientId) (clients : List (Option ClientView)) where
  -- there is no core
  pub stays_none : HasNone old.clients clients i.0 → of_clients old clients ≡ old
  stays_none none = ap (λ cs. of_clients old cs) none.same

  -- a text joins a queue
  pub says_by : (text : List ℕ) → HasNone old.clients clients i.0 ⊎ Turns old.clients clients i.0 (λ before after. after ≡ with_text before text)
      → SaysText i text old (of_clients old clients) []
  says_by text (inl none) = silent none.none (stays_none none, refl)
  says_by text (inr turns) =
      says turns.before turns.there
      (ap (λ cs. of_clients old cs) (turns.kept ∙ ap (λ (x : ClientView). slice_set old.clients i.0 (Some x)) turns.called), refl)

  module _ (new : PartsView) (lines : List Outcome) where
    -- the core stays as it is, and the word is told
    told_same : (before after : ClientView) → client_at old i ≡ Some before → after ≡ before → clients ≡ slice_set old.clients i.0 (Some after)
        → new ≡ of_clients old clients → new ≡ old
    told_same before after there same kept is = is ∙ ap (λ cs. of_clients old cs) (stays old i clients before after there same kept)

    module _ (j : ServerId) (r : Round) where
      pub submits_given : (s : Submission) → Turns old.clients clients i.0 (λ before after. GivesSubmission r before (Ok s) after)
          → PutsSubmission i j s (of_clients old clients) new lines → Submits i j r old new lines
      submits_given s turns put = submits turns.before turns.there (record {
        submission = s;
        after = turns.after;
        given = turns.called.0;
        client = turns.called.1;
        put = subst (λ cs. PutsSubmission i j s (of_clients old cs) new lines) turns.kept put;
      })

      submit_told : (f : SubmitFault) (why : IgnoredWord) → submit_word_of f ≡ Some why → f ≢ submit_faults.NoMemory
      submit_told f why is none = let no : None ≡ Some why = subst (λ x. submit_word_of x ≡ Some why) none is in let contrary : ⊥ = cc in contrary

      pub refuses_given : (f : SubmitFault) (why : IgnoredWord) → Turns old.clients clients i.0 (λ before after. GivesSubmission r before (Err f) after)
          → submit_word_of f ≡ Some why → new ≡ of_clients old clients → lines ≡ outcomes.Ignored why ∷ [] → Submits i j r old new lines
      refuses_given f why turns word is told = refuses turns.before turns.there (record {
        fault = f;
        refused = turns.called.0;
        told = record {
          why = why;
          is = word;
          tells = (told_same turns.before turns.after turns.there (turns.called.1 (submit_told f why word)) turns.kept is, told);
        };
      })

      pub submits_none : HasNone old.clients clients i.0 → new ≡ of_clients old clients → lines ≡ [] → Submits i j r old new lines
      submits_none none is told = rests none.none (is ∙ stays_none none, told)

    module _ (r : Round) (k : ℕ) where
      pub accuses_given : (v : Vec ℕ) → Turns old.clients clients i.0 (λ before after. GivesAccusation r k before (Ok v) after)
          → PutsToServers i v.items (of_clients old clients) new lines → AccusesAt i r k old new lines
      accuses_given v turns put = accuses turns.before turns.there (record {
        envelope = v.items;
        after = turns.after;
        given = turns.called.0;
        client = turns.called.1;
        put = subst (λ cs. PutsToServers i v.items (of_clients old cs) new lines) turns.kept put;
      })

      accuse_told : (f : AccuseFault) (why : IgnoredWord) → accuse_word_of f ≡ Some why → f ≢ accuse_faults.NoMemory
      accuse_told f why is none = let no : None ≡ Some why = subst (λ x. accuse_word_of x ≡ Some why) none is in let contrary : ⊥ = cc in contrary

      pub declines_given : (f : AccuseFault) (why : IgnoredWord) → Turns old.clients clients i.0 (λ before after. GivesAccusation r k before (Err f) after)
          → accuse_word_of f ≡ Some why → new ≡ of_clients old clients → lines ≡ outcomes.Ignored why ∷ [] → AccusesAt i r k old new lines
      declines_given f why turns word is told = declines turns.before turns.there (record {
        fault = f;
        refused = turns.called.0;
        told = record {
          why = why;
          is = word;
          tells = (told_same turns.before turns.after turns.there (turns.called.1 (accuse_told f why word)) turns.kept is, told);
        };
      })

      pub accuses_none : HasNone old.clients clients i.0 → new ≡ of_clients old clients → lines ≡ [] → AccusesAt i r k old new lines
      accuses_none none is told = calm none.none (is ∙ stays_none none, told)
