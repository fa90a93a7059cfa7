-- What an auditor knows stays right where a server's core is called: it is told the ciphertext of its record.
use Rattle.std.proofs.Common.{◌≡◌, ◌≢◌, ℕ, ◌<◌, List, [], ◌∷◌, ◌++◌, length, refl, sym, ap, subst, ◌∙◌, inl, inr, Bool, true, false}
use Rattle.std.specs.Prelude.{Contains, ◌⊎◌, Option, Some, None, slice_set}
use Rattle.std.proofs.lemmas.Bool.Decides.{eqb_tells}
use Rattle.std.proofs.lemmas.Option.{same_Some}
use Rattle.std.proofs.lemmas.List.Elements.{Contains-append_left, Contains-push, Contains-push_cases}
use Rattle.dn_wire.specs.declared.ids.Round.{Round}
use Rattle.dn_wire.specs.declared.ids.ServerId.{ServerId}
use Rattle.dn_server.specs.declared.run.Sum.{Sum}
use Rattle.dn_server.specs.Server.{ServerView}
use Rattle.dn_audit.specs.Auditor.{AuditorView}
use Rattle.dn_audit.specs.Group.{GroupView as Marked}
use Rattle.dn_state.specs.Parts.{PartsView}
use Rattle.dn_state.specs.Members.{core_at, server_at, with_server}
use Rattle.dn_state.specs.Calling.{NotesSum}
use Rattle.dn_headline.specs.Group.{GroupView}
use Rattle.dn_headline.specs.Log.{Log}
use Rattle.dn_headline.specs.Run.{SumMade}
use Rattle.dn_auditing.specs.Known.{Knows}
use Rattle.dn_auditing.proofs.Putting.{sum_told}
use Rattle.dn_steps.specs.Audited.{IsSumOf}
use Rattle.dn_steps.proofs.Members.{core_set_same, core_set_other, server_within}
use Rattle.dn_steps.proofs.AuditPuts.{Keeps}

-- the ciphertext of a core's record
abbrev pub sum_of : ServerId → ServerView → Sum → SumMade
sum_of j c sum = record { server = j; r = c.run.r; sum = sum.s }

-- the parts with a server's core, and another auditor
abbrev pub with_called : PartsView → ServerId → ServerView → AuditorView → PartsView
with_called parts j core auditor = record (with_server parts j core) { auditor = auditor }

-- The ciphertexts that the auditor was told of: all that the run has, and those of the servers' records; and no others.
pub record AreTold (sums : List SumMade) (parts : PartsView) (made : List SumMade) : Type 0 where
  pub all : (m : SumMade) → Contains sums m → Contains made m
  pub only : (m : SumMade) → Contains made m → Contains sums m ⊎ IsSumOf parts m
  pub current : (m : SumMade) → IsSumOf parts m → Contains made m

-- where the cores are the same
pub told_still : (sums : List SumMade) (old new : PartsView) (made : List SumMade) → new.servers ≡ old.servers → AreTold sums old made → AreTold sums new made
told_still sums old new made same told = record {
  all = told.all;
  only = λ m h. elim (told.only m h) [ inl before ↦ inl before | inr now ↦ inr (moved old new same m now) ];
  current = λ m h. told.current m (moved new old (sym same) m h);
}
  where
    moved : (a b : PartsView) → b.servers ≡ a.servers → (m : SumMade) → IsSumOf a m → IsSumOf b m
    moved a b cores m h = record {
      core = h.core;
      there = ap (λ cs. core_at cs m.server.0) cores ∙ h.there;
      sum = h.sum;
      has = h.has;
      is = h.is;
    }

same_id : (j k : ServerId) → j.0 ≡ k.0 → j ≡ k
same_id j k e = let c : ℕ → ServerId = λ n. record { 0 = n } in ap c e

module _ (parts : PartsView) (j : ServerId) (before after : ServerView) (auditor : AuditorView) (at : server_at parts j ≡ Some before) where
  -- the core that was called
  pub called_core : server_at (with_called parts j after auditor) j ≡ Some after
  called_core = core_set_same parts.servers j.0 after (server_within parts j before at)

  -- and another
  pub other_core : (k : ServerId) → k.0 ≢ j.0 → server_at (with_called parts j after auditor) k ≡ server_at parts k
  other_core k other = core_set_other parts.servers j.0 k.0 after other

  -- a ciphertext of another server's record
  other_sum : (m : SumMade) → m.server.0 ≢ j.0 → IsSumOf parts m → IsSumOf (with_called parts j after auditor) m
  other_sum m other h = record { core = h.core; there = other_core m.server other ∙ h.there; sum = h.sum; has = h.has; is = h.is }

  other_before : (m : SumMade) → m.server.0 ≢ j.0 → IsSumOf (with_called parts j after auditor) m → IsSumOf parts m
  other_before m other h = record { core = h.core; there = sym (other_core m.server other) ∙ h.there; sum = h.sum; has = h.has; is = h.is }

  -- a ciphertext of the record of the core that was called
  its_core : (m : SumMade) → m.server ≡ j → (h : IsSumOf (with_called parts j after auditor) m) → h.core ≡ after
  its_core m same h =
      same_Some h.core after (sym h.there ∙ ap (server_at (with_called parts j after auditor)) same ∙ called_core)

-- a server that was not called yet: the run has the ciphertext of its record
abbrev pub IsUncalled : List SumMade → PartsView → ServerId → Type 0
IsUncalled sums parts j = (m : SumMade) → m.server ≡ j → IsSumOf parts m → Contains sums m

module _ (g : GroupView) (marked : Marked) (sums made : List SumMade) (log : Log) (parts : PartsView) (j : ServerId) (before after : ServerView)
    (at : server_at parts j ≡ Some before) (uncalled : IsUncalled sums parts j) (told : AreTold sums parts made) (k : Keeps g marked made log parts) where
  -- what holds once the core was called and its ciphertext told
  pub record Called (auditor : AuditorView) : Type 0 where
    pub now : List SumMade
    pub told_now : AreTold sums (with_called parts j after auditor) now
    pub keeps : Keeps g marked now log (with_called parts j after auditor)

  -- the record has no ciphertext
  no_sum : (auditor : AuditorView) → after.run.sum ≡ None → auditor ≡ parts.auditor → Called auditor
  no_sum auditor none same = record {
    now = made;
    told_now = record {
      all = told.all;
      only = λ m h. elim (told.only m h) [
        | inl had ↦ inl had
        | inr current ↦ elim (eqb_tells m.server.0 j.0) [
          | inl its ↦ inl (uncalled m (same_id m.server j its.1) current)
          | inr other ↦ inr (other_sum parts j before after auditor at m other.1 current)
        ]
      ];
      current = λ m h. elim (eqb_tells m.server.0 j.0) [
        | inl its ↦
            let core = its_core parts j before after auditor at m (same_id m.server j its.1) h in
            let clash : Some h.sum ≡ None = sym h.has ∙ ap (λ (c : ServerView). c.run.sum) core ∙ none in absurd cc
        | inr other ↦ told.current m (other_before parts j before after auditor at m other.1 h)
      ];
    };
    keeps = record {
      opens = k.opens;
      group = k.group;
      payloads = k.payloads;
      knows = subst (Knows g log.puts made) (sym same) k.knows;
    };
  }

  -- it has one, which is told
  one_sum : (auditor : AuditorView) (sum : Sum) → after.run.sum ≡ Some sum → NotesSum j after.run.r (Some sum) parts.auditor auditor → Called auditor
  one_sum auditor sum has notes = record {
    now = made ++ sum_of j after sum ∷ [];
    told_now = record {
      all = λ m h. Contains-append_left made (sum_of j after sum ∷ []) m (told.all m h);
      only = λ m h. elim (Contains-push_cases made (sum_of j after sum) m h) [
        | inl had ↦ elim (told.only m had) [
          | inl in_run ↦ inl in_run
          | inr current ↦ elim (eqb_tells m.server.0 j.0) [
            | inl its ↦ inl (uncalled m (same_id m.server j its.1) current)
            | inr other ↦ inr (other_sum parts j before after auditor at m other.1 current)
          ]
        ]
        | inr now ↦ inr (subst (IsSumOf (with_called parts j after auditor)) now (record {
          core = after;
          there = called_core parts j before after auditor at;
          sum = sum;
          has = has;
          is = refl;
        }))
      ];
      current = λ m h. elim (eqb_tells m.server.0 j.0) [
        | inl its ↦
            let server = same_id m.server j its.1 in
            let core = its_core parts j before after auditor at m server h in
            let same_sum : h.sum ≡ sum = same_Some h.sum sum (sym h.has ∙ ap (λ (c : ServerView). c.run.sum) core ∙ has) in
            let is : sum_of j after sum ≡ m = sym (h.is ∙ (λ t. record { server = server t; r = (core t).run.r; sum = (same_sum t).s })) in
            subst (Contains (made ++ sum_of j after sum ∷ [])) is (Contains-push made (sum_of j after sum))
        | inr other ↦ Contains-append_left made (sum_of j after sum ∷ []) m (told.current m (other_before parts j before after auditor at m other.1 h))
      ];
    };
    keeps = record {
      opens = k.opens;
      group = k.group;
      payloads = k.payloads;
      knows = sum_told g log.puts made (sum_of j after sum) parts.auditor auditor notes k.knows;
    };
  }

  by_sum : (auditor : AuditorView) (o : Option Sum) → after.run.sum ≡ o → NotesSum j after.run.r o parts.auditor auditor → Called auditor
  by_sum auditor None is same = no_sum auditor is same
  by_sum auditor (Some sum) is notes = one_sum auditor sum is notes

  pub is_called : (auditor : AuditorView) → NotesSum j after.run.r after.run.sum parts.auditor auditor → Called auditor
  is_called auditor notes = by_sum auditor after.run.sum refl notes

  -- a core that stays as it was, with nothing told
  pub stays_called : after ≡ before → Called parts.auditor
  stays_called same = record {
    now = made;
    told_now = record {
      all = told.all;
      only = λ m h. elim (told.only m h) [ inl had ↦ inl had | inr current ↦ inr (forth m current) ];
      current = λ m h. told.current m (back m h);
    };
    keeps = record { opens = k.opens; group = k.group; payloads = k.payloads; knows = k.knows };
  }
    where
      core_same : (x : ServerId) → server_at (with_called parts j after parts.auditor) x ≡ server_at parts x
      core_same x = elim (eqb_tells x.0 j.0) [
        | inl its ↦
            let server = same_id x j its.1 in
            ap (server_at (with_called parts j after parts.auditor)) server ∙ called_core parts j before after parts.auditor at ∙ ap Some same ∙ sym at
            ∙ ap (server_at parts) (sym server)
        | inr other ↦ other_core parts j before after parts.auditor at x other.1
      ]

      forth : (m : SumMade) → IsSumOf parts m → IsSumOf (with_called parts j after parts.auditor) m
      forth m h = record { core = h.core; there = core_same m.server ∙ h.there; sum = h.sum; has = h.has; is = h.is }

      back : (m : SumMade) → IsSumOf (with_called parts j after parts.auditor) m → IsSumOf parts m
      back m h = record { core = h.core; there = sym (core_same m.server) ∙ h.there; sum = h.sum; has = h.has; is = h.is }
