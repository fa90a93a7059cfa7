-- What a call does to messages, by what cores promise, follows the rules of runs.
use Rattle.std.proofs.Common.{◌≡◌, ℕ, List, ◌++◌, map, sym, ap, subst, ◌∙◌, arith, inl, inr, true}
use Rattle.std.specs.Prelude.{Contains, ◌⊎◌}
use Rattle.std.proofs.lemmas.List.Elements.{Contains-append_left}
use Rattle.dn_wire.specs.declared.ids.ServerId.{ServerId}
use Rattle.dn_wire.specs.declared.ids.Round.{Round}
use Rattle.dn_wire.specs.declared.ids.Member.TheVariants as members
use Rattle.dn_record_types.specs.declared.statement.Statement.{Statement}
use Rattle.dn_seal.specs.Said.{SaidView}
use Rattle.dn_cert.proofs.ListLemmas.{Contains-map, Contains-from_map}
use Rattle.dn_report.specs.declared.outcome.Outcome.{Outcome}
use Rattle.dn_headline.specs.Group.{IsHonestServer}
use Rattle.dn_headline.specs.Log.{Step, Log, Put, Message, message_of, is_own, actor_of, with_removal, IsSoundLog}
use Rattle.dn_headline.specs.Run.{RunView, PlainMade, SumMade, log}
use Rattle.dn_headline.specs.Delivered.{IsPhaseOf}
use Rattle.dn_headline.specs.Invariant.{Facts, ServerFacts, Kept, Keeps, Carries, Runs}
use Rattle.dn_headline.specs.Step.{MessagesFollow}
use Rattle.dn_links.specs.Link.{ServersCalled}
use Rattle.dn_links.specs.MessageLink.{LogMoves, DeliversNow, NoneAhead, MessagesCalled}
use Rattle.dn_links.specs.MessageLink.LogMoves.{by_step, by_more}
use Rattle.dn_headline.proofs.Flights.{outcomes_go, outcomes_sound, delivered_same, removal_delivers, step_fate, step_sound, step_delivers_what_was_put}

-- what was delivered, was so before or is now
delivered_cases : (old new : Log) (moves : LogMoves old new) (m : Message) → Contains new.delivered m → Contains old.delivered m ⊎ DeliversNow old new moves m
delivered_cases old new (by_step s orderly is) m h =
    let mid = with_removal old s.event s.outcomes in
    let same = delivered_same (is_own s.event) (actor_of old s.event) mid s.outcomes in
    removal_delivers old s.event s.outcomes m (subst (λ (ms : List Message). Contains ms m) same (subst (λ (l : Log). Contains l.delivered m) is h))
delivered_cases old new (by_more actor more numbered is) m h =
    inl (subst (λ (ms : List Message). Contains ms m) (delivered_same true actor old more) (subst (λ (l : Log). Contains l.delivered m) is h))

-- and it was put
delivered_put : (old new : Log) → LogMoves old new → IsSoundLog old → (m : Message) → Contains new.delivered m
    → Contains old.delivered m ⊎ ((p : Put) × Contains old.puts p × (p.bytes ≡ m.bytes))
delivered_put old new (by_step s orderly is) sound m h = step_delivers_what_was_put old s orderly sound m (subst (λ (l : Log). Contains l.delivered m) is h)
delivered_put old new (by_more actor more numbered is) sound m h =
    inl (subst (λ (ms : List Message). Contains ms m) (delivered_same true actor old more) (subst (λ (l : Log). Contains l.delivered m) is h))

abbrev FateIn : Log → Log → ℕ → Type 0
FateIn old new id =
    Contains new.delivered (message_of old id) ⊎ Contains new.lost (message_of old id) ⊎ (Contains new.flight id × (message_of new id ≡ message_of old id))

-- a server's message in flight stays there, or is delivered or lost
has_fate : (old new : Log) → LogMoves old new → IsSoundLog old → (id : ℕ) (x : ServerId) → Contains old.flight id → (message_of old id).from ≡ members.Server x → FateIn old new id
has_fate old new (by_step s orderly is) sound id x h from = subst (λ (l : Log). FateIn old l id) (sym is) (step_fate old s id x sound h from)
has_fate old new (by_more actor more numbered is) sound id x h from =
    let goes = outcomes_go true actor old more in
    let at = goes.sent id (sound.flies id h) in
    subst (λ (l : Log). FateIn old l id) (sym is) (inr (inr (goes.flies id h, at.1)))

pub log_stays_sound : (old new : Log) → LogMoves old new → IsSoundLog old → IsSoundLog new
log_stays_sound old new (by_step s orderly is) sound = subst IsSoundLog (sym is) (step_sound old s orderly sound)
log_stays_sound old new (by_more actor more numbered is) sound = subst IsSoundLog (sym is) (outcomes_sound true actor old more numbered sound)

module _ (w : RunView) (f g : Facts) (history : List Step) (plains : List PlainMade) (sums : List SumMade) (lines : List Outcome) (fresh : ServerId → List Statement)
    (more : List Put) (puts : (log (record { group = w.group; history = history; plains = plains; sums = sums })).puts ≡ (log w).puts ++ more)
    (called : ServersCalled w (record { group = w.group; history = history; plains = plains; sums = sums }) f g lines fresh)
    (messages : MessagesCalled w (record { group = w.group; history = history; plains = plains; sums = sums }) f g lines fresh called.before called.after) where
  abbrev v : RunView
  v = record { group = w.group; history = history; plains = plains; sums = sums }

  carried : (x j : ServerId) (s : Statement) (m : Message) → Carries v x j s m → Carries w x j s m
  carried x j s m c = record { from = c.from; to = c.to; own = c.own; says = c.says }

  abbrev kept_as : SaidView → Kept
  kept_as said = record { by = said.signer; statement = said.statement }

  keeps_still : (j x : ServerId) (s : Statement) → IsHonestServer w.group j
      → ((said : SaidView) → Contains (called.before j).run.kept said → Contains (called.after j).run.kept said) → Keeps f j x s → Keeps g j x s
  keeps_still j x s h stays k =
      let said = Contains-from_map kept_as (called.before j).run.kept k.0 (subst (λ (z : ServerFacts). Contains z.kept k.0) (called.facts_before j h) k.1) in
      let there = Contains-map kept_as (called.after j).run.kept said.0 (stays said.0 said.1) in (
        k.0,
        subst (λ (z : ServerFacts). Contains z.kept k.0) (sym (called.facts_after j h))
            (subst (λ (z : Kept). Contains (map kept_as (called.after j).run.kept) z) said.2 there),
        k.2,
        k.3,
      )

  kept : (x j : ServerId) (r : Round) (s : Statement) (m : Message) → IsHonestServer w.group j → IsPhaseOf r s → Carries v x j s m
      → Contains (log v).delivered m → Runs g j r → (Contains (log w).delivered m × Runs f j r × (Keeps f j x s → Keeps g j x s)) ⊎ Keeps g j x s
  kept x j r s m h phase carries delivered runs =
      elim (delivered_cases (log w) (log v) messages.moves m delivered) [
        | inr now ↦ inr (messages.hears x j r s m h phase carries now runs)
        | inl old ↦
            let reached = messages.none_ahead j h x r s m phase (carried x j s m carries) old in
            let last : (called.after j).run.r.0 ≡ r.0 = ap (λ (z : ServerFacts). z.last) (sym (called.facts_after j h)) ∙ runs.last in
            let running : (called.after j).run.is_running ≡ true = ap (λ (z : ServerFacts). z.runs) (sym (called.facts_after j h)) ∙ runs.runs in
            elim (called.moves j h).round [
              | inr opens ↦ let above = opens.above in absurd (omega arith)
              | inl stays ↦ inl (
                old,
                record {
                  last = ap (λ (z : ServerFacts). z.last) (called.facts_before j h) ∙ ap (λ (q : Round). q.0) (sym stays.r) ∙ last;
                  runs = ap (λ (z : ServerFacts). z.runs) (called.facts_before j h) ∙ messages.runs_on j h stays running;
                },
                keeps_still j x s h (λ said there. messages.keeps_on j said h stays there),
              )
            ]
      ]

  pub messages_follow : MessagesFollow w v f g fresh
  messages_follow = record {
    was_put = λ m delivered. elim (delivered_put (log w) (log v) messages.moves messages.sound m delivered) [
      | inl old ↦ inl old
      | inr p ↦ inr (p.0, subst (λ (ps : List Put). Contains ps p.0) (sym puts) (Contains-append_left (log w).puts more p.0 p.1), p.2)
    ];
    flies = λ id x h from. elim (has_fate (log w) (log v) messages.moves messages.sound id x h from) [
      | inl delivered ↦ inl delivered
      | inr rest ↦ elim rest [ inl lost ↦ inr (inl lost) | inr flies ↦ inr (inr (id, flies.0, flies.1)) ]
    ];
    sent = λ x j r s hx hj ne phase there. messages.sent x j r s hx hj ne phase there;
    kept = λ x j r s m h phase carries delivered runs. kept x j r s m h phase carries delivered runs;
  }

  -- nothing ahead of a server's round has reached it
  pub none_ahead_after : (j : ServerId) → IsHonestServer w.group j → NoneAhead v j (called.after j)
  none_ahead_after j h x r s m phase carries delivered =
      elim (delivered_cases (log w) (log v) messages.moves m delivered) [
        | inr now ↦ messages.not_ahead x j r s m h phase carries now
        | inl old ↦
            let reached = messages.none_ahead j h x r s m phase (carried x j s m carries) old in
            elim (called.moves j h).round [
              | inr opens ↦ let above = opens.above in omega arith
              | inl stays ↦ let same = ap (λ (q : Round). q.0) stays.r in omega arith
            ]
      ]
