-- What the steps of a server do that goes on in its round: which acts they are, what they certify, and what spoils them.
use Rattle.std.proofs.Common.{◌≡◌, ◌≢◌, ℕ, ◌<◌, ◌≤◌, List, [], ◌∷◌, ◌++◌, length, refl, sym, ap, subst, ◌∙◌, inl, inr, true, arith}
use Rattle.std.specs.Prelude.{Contains, ◌⊎◌, ◌==◌, ◌&&◌, Option, Some, None, Bool, option_map, map, find}
use Rattle.std.proofs.lemmas.Bool.{and_parts, eqb-true, cases_Bool}
use Rattle.std.proofs.lemmas.Option.{same_Some}
use Rattle.std.proofs.lemmas.List.Elements.{Contains-append_left, Contains-append_right, Contains-append_cases}
use Rattle.dn_wire.specs.declared.ids.Member.{Member}
use Rattle.dn_wire.specs.declared.ids.ServerId.{ServerId}
use Rattle.dn_wire.specs.declared.ids.Round.{Round}
use Rattle.dn_bits.specs.Bits.{below}
use Rattle.dn_record_types.specs.declared.body.Body.{Body}
use Rattle.dn_record_types.specs.declared.statement.Statement.{Statement}
use Rattle.dn_record_types.specs.declared.statement.Statement.TheVariants as kinds
use Rattle.dn_record_types.specs.declared.payload.Payload.TheVariants as payloads
use Rattle.dn_records.specs.Records.{kind_byte, payload_bytes}
use Rattle.dn_roster.specs.Roster.{RosterView}
use Rattle.dn_seal.specs.Dealt.{server}
use Rattle.dn_seal.specs.Said.{SaidView}
use Rattle.dn_cert.specs.Certificate.{CertificateView}
use Rattle.dn_cert.specs.Chain.{bodies}
use Rattle.dn_cert.proofs.GrowthLemmas.{held_comes}
use Rattle.dn_cert.proofs.Orders.{here, nothing, first_or_later}
use Rattle.dn_trace.proofs.HeardLemmas.{found}
use Rattle.dn_server.specs.declared.act.Act.{Act}
use Rattle.dn_server.specs.declared.act.Act.TheVariants as acts
use Rattle.dn_server.specs.declared.act.SpoilReason.{SpoilReason}
use Rattle.dn_server.specs.declared.act.SpoilReason.TheVariants as reasons
use Rattle.dn_server.specs.declared.past.Past.{Past}
use Rattle.dn_server.specs.declared.places.Place.{Place as OpenedPlace}
use Rattle.dn_server.specs.declared.run.Stage.{Stage}
use Rattle.dn_server.specs.declared.run.Stage.TheVariants as stages
use Rattle.dn_server.specs.Justified.{Seat}
use Rattle.dn_server.specs.Keeping.{round_of}
use Rattle.dn_server.specs.Server.{ServerView, itself, servers_in, others_of, everyone_of, client_member, is_of, is_server, kept_of, statement_of, past_of, ended}
use Rattle.dn_rounds.specs.Going.{Step, Steps, IsAgreed, IsCertificateOf, Conflicts, commitment_of, past_with, thin_past}
use Rattle.dn_rounds.specs.Going.Step.{commits, reveals, signs, signs_thin, certifies, commit_conflicts, reveal_conflicts, body_opposed, thin_opposed}
use Rattle.dn_rounds.specs.Going.Steps.{no_step, one_more}
use Rattle.dn_exchange.specs.Disciplined.{HasSaidNone, AreUnsaid}
use Rattle.dn_openings.specs.Accusing.{shown_of}
use Rattle.dn_links.specs.Going.{KeepsRound, GoesBy}
use Rattle.dn_steps.specs.Openings.{KeepsOpenings}
use Rattle.dn_links.proofs.Going.{step_by, steps_by}
use Rattle.dn_links.proofs.Linking.{kept_there}
use Rattle.dn_steps.proofs.Places.{only}
use Rattle.dn_steps.proofs.OwnPuts.{plain_goes}
use Rattle.dn_steps.proofs.Carrying.{AreCarried, carried_too}
use Rattle.dn_steps.proofs.Carrying.AreCarried.{nothing_is, posts, certifies as carries, tells}

-- ---- what is kept

said_of : (o : Option SaidView) (s : Statement) → option_map (λ (x : SaidView). x.statement) o ≡ Some s → (said : SaidView) × (o ≡ Some said) × (said.statement ≡ s)
said_of None s e = absurd cc
said_of (Some said) s e = (said, refl, same_Some said.statement s e)

pub kind_of_kept : (kept : List SaidView) (kind j : ℕ) (s : Statement) → statement_of kept kind j ≡ Some s → kind_byte s ≡ kind
kind_of_kept kept kind j s e =
    let said = said_of (kept_of kept kind j) s e in
    let there = found (is_of kind j) kept said.0 said.1 in
    let parts = and_parts (is_server j said.0.signer) (kind_byte said.0.statement == kind) there.1 in
    ap kind_byte (sym said.2) ∙ eqb-true (kind_byte said.0.statement) kind parts.1

-- the round of what is kept stays where the core goes on
pub round_kept : (s d : ServerView) (did : List Act) → GoesBy s did d → KeepsRound s → KeepsRound d
round_kept s d did by keeps said h =
    elim (by.kept said h) [
      | inl old ↦ keeps said old ∙ ap Some (sym by.r)
      | inr new ↦ by.of_round said.statement new.0 ∙ ap Some (sym by.r)
    ]

-- a statement under its own number that it keeps and hasn't signed
pub record IsForged (s : ServerView) (x : ServerId) : Type 0 where
  pub number : x.0 ≡ s.seat.number
  pub said : SaidView
  pub among : Contains s.run.kept said
  pub by : said.signer ≡ itself s
  pub unsigned : ¬ Contains s.signed said.statement

-- what is so after steps was so before
pub forged_before : (s d : ServerView) (did : List Act) (x : ServerId) → GoesBy s did d → IsForged d x → IsForged s x
forged_before s d did x by h = record {
  number = h.number ∙ ap (λ (z : Seat). z.number) by.seat;
  said = h.said;
  among = elim (by.kept h.said h.among) [ inl old ↦ old | inr new ↦ absurd (h.unsigned (in_after (Contains-append_right s.signed by.fresh h.said.statement new.0))) ];
  by = h.by ∙ ap (λ (z : Seat). server z.number) by.seat;
  unsigned = λ was. h.unsigned (in_after (Contains-append_left s.signed by.fresh h.said.statement was));
} where
  in_after : Contains (s.signed ++ by.fresh) h.said.statement → Contains d.signed h.said.statement
  in_after = subst (λ (ss : List Statement). Contains ss h.said.statement) (sym by.signed)

-- a statement of its own that stands in the way of a kind of which it has signed none
pub conflict_forged : (s : ServerView) (due other : Statement) (x : ServerId) → Conflicts s due other → HasSaidNone s (kind_byte due) → KeepsRound s → x.0 ≡ s.seat.number → IsForged s x
conflict_forged s due other x conflicts none keeps number =
    let at = kept_there s.run.kept (kind_byte due) s.seat.number other conflicts.0 in
    record {
      number = number;
      said = at.0;
      among = at.1;
      by = at.2;
      unsigned = λ was. none at.0.statement was (keeps at.0 at.1) (ap kind_byte at.3 ∙ kind_of_kept s.run.kept (kind_byte due) s.seat.number other conflicts.0);
    }

-- ---- which acts they are

-- a post, a certificate or a spoiling
abbrev pub IsGoing : Act → Type 0
IsGoing (acts.Post to bytes) = Unit {0}
IsGoing (acts.Certified e) = Unit {0}
IsGoing (acts.Spoiled x reason kept came) = Unit {0}
IsGoing _ = ⊥

one_is : (a b : Act) (did : List Act) → did ≡ a ∷ [] → Contains did b → a ≡ b
one_is a b did is h = only a b (subst (λ (xs : List Act). Contains xs b) is h)

goes_one : (a b : Act) (did : List Act) → did ≡ a ∷ [] → IsGoing a → Contains did b → IsGoing b
goes_one a b did is going h = subst IsGoing (one_is a b did is h) going

goes_two : (a c b : Act) (did : List Act) → did ≡ a ∷ c ∷ [] → IsGoing a → IsGoing c → Contains did b → IsGoing b
goes_two a c b did is first second h =
    elim (first_or_later a (c ∷ []) b (subst (λ (xs : List Act). Contains xs b) is h)) [ inl e ↦ subst IsGoing e first | inr behind ↦ subst IsGoing (only c b behind) second ]

step_going : (s d : ServerView) (did : List Act) → Step s did d → (a : Act) → Contains did a → IsGoing a
step_going s d did (commits sum due free leaf same is) a h = goes_one _ a did same tt h
step_going s d did (reveals sum due free leaf same is) a h = goes_one _ a did same tt h
step_going s d did (signs sum b due free leaf same is) a h = goes_one _ a did same tt h
step_going s d did (signs_thin b due free leaf same is) a h = goes_one _ a did same tt h
step_going s d did (certifies b e agreed of can same is) a h = goes_two _ _ a did same tt tt h
step_going s d did (commit_conflicts sum other due conflicts same is) a h = goes_one _ a did same tt h
step_going s d did (reveal_conflicts sum other due conflicts same is) a h = goes_one _ a did same tt h
step_going s d did (body_opposed sum b j other due against same is) a h = goes_one _ a did same tt h
step_going s d did (thin_opposed b j other due against same is) a h = goes_one _ a did same tt h

pub steps_going : (s d : ServerView) (did : List Act) → Steps s did d → (a : Act) → Contains did a → IsGoing a
steps_going s d did (no_step same is) a h = absurd (nothing a (subst (λ (xs : List Act). Contains xs a) same h))
steps_going s d did (one_more first rest between on step steps same) a h =
    elim (Contains-append_cases first rest a (subst (λ (xs : List Act). Contains xs a) same h)) [
      | inl now ↦ step_going s between first step a now
      | inr behind ↦ steps_going between d rest steps a behind
    ]

-- ---- what is certified

-- it is of the round, and is held
abbrev pub IsHeldBy : ServerView → Round → CertificateView → Type 0
IsHeldBy d r e = (e.body.r ≡ r) × Contains (bodies d.chain) e.body

step_certified : (s d : ServerView) (did : List Act) → s.seat.number < servers_in s → KeepsRound s → Step s did d → (e : CertificateView) → Contains did (acts.Certified e) → IsHeldBy d s.run.r e
step_certified s d did within keeps (commits sum due free leaf same is) e h = let x = one_is _ (acts.Certified e) did same h in absurd cc
step_certified s d did within keeps (reveals sum due free leaf same is) e h = let x = one_is _ (acts.Certified e) did same h in absurd cc
step_certified s d did within keeps (signs sum b due free leaf same is) e h = let x = one_is _ (acts.Certified e) did same h in absurd cc
step_certified s d did within keeps (signs_thin b due free leaf same is) e h = let x = one_is _ (acts.Certified e) did same h in absurd cc
step_certified s d did within keeps (commit_conflicts sum other due conflicts same is) e h = let x = one_is _ (acts.Certified e) did same h in absurd cc
step_certified s d did within keeps (reveal_conflicts sum other due conflicts same is) e h = let x = one_is _ (acts.Certified e) did same h in absurd cc
step_certified s d did within keeps (body_opposed sum b j other due against same is) e h = let x = one_is _ (acts.Certified e) did same h in absurd cc
step_certified s d did within keeps (thin_opposed b j other due against same is) e h = let x = one_is _ (acts.Certified e) did same h in absurd cc
step_certified s d did within keeps (certifies b c agreed of can same is) e h =
    elim (first_or_later (acts.Certified c) (acts.Post (everyone_of s.seat) c.bytes ∷ []) (acts.Certified e) (subst (λ (xs : List Act). Contains xs (acts.Certified e)) same h)) [
      | inl it ↦ subst (IsHeldBy d s.run.r) (certificate_same c e it) (
          let own = kept_there s.run.kept 6 s.seat.number (kinds.Sign b) (agreed.signs s.seat.number within) in (
            ap (λ (z : Body). z.r) of.body ∙ round_is own.0.statement b own.3 (keeps own.0 own.1),
            subst (λ (z : ServerView). Contains (bodies z.chain) c.body) (sym is) (held_comes c.body s.chain.held),
          )
          )
      | inr behind ↦ let x = only _ (acts.Certified e) behind in absurd cc
    ]
  where
    certificate_same : (a b : CertificateView) → acts.Certified a ≡ acts.Certified b → a ≡ b
    certificate_same a b x = cc

    round_is : (t : Statement) (x : Body) → t ≡ kinds.Sign x → round_of t ≡ Some s.run.r → x.r ≡ s.run.r
    round_is t x same_one round = same_Some x.r s.run.r (ap round_of (sym same_one) ∙ round)

pub steps_certified : (s d : ServerView) (did : List Act) → s.seat.number < servers_in s → KeepsRound s → Steps s did d → (e : CertificateView) → Contains did (acts.Certified e)
    → IsHeldBy d s.run.r e
steps_certified s d did within keeps (no_step same is) e h = absurd (nothing (acts.Certified e) (subst (λ (xs : List Act). Contains xs (acts.Certified e)) same h))
steps_certified s d did within keeps (one_more first rest between on step steps same) e h =
    let one = step_by s first between within step in
    let within_too = subst (λ (z : Seat). z.number < servers_in (record s { seat = z })) (sym one.seat) within in
    let two = steps_by between rest d within_too steps in
    elim (Contains-append_cases first rest (acts.Certified e) (subst (λ (xs : List Act). Contains xs (acts.Certified e)) same h)) [
      | inl now ↦ let is = step_certified s between first within keeps step e now in (is.0, two.held e.body is.1)
      | inr behind ↦ let is = steps_certified between d rest within_too (round_kept s between first one keeps) steps e behind in (is.0 ∙ one.r, is.1)
    ]

-- ---- what spoils them

-- a spoiling is of a body that is due, or of a statement that the server didn't sign
abbrev pub IsSpoilt : ServerView → SpoilReason → ServerId → Type 0
IsSpoilt s reason x = (reason ≡ reasons.Body) ⊎ IsForged s x

spoiled_is : (x y : ServerId) (r q : SpoilReason) (a b c d : List ℕ) → acts.Spoiled x r a b ≡ acts.Spoiled y q c d → (x ≡ y) × (r ≡ q)
spoiled_is x y r q a b c d e = (cc, cc)

step_spoiled : (s d : ServerView) (did : List Act) → AreUnsaid s.run.stage s → KeepsRound s → Step s did d → (x : ServerId) (reason : SpoilReason) (kept came : List ℕ)
    → Contains did (acts.Spoiled x reason kept came) → IsSpoilt s reason x
step_spoiled s d did none keeps (commits sum due free leaf same is) x reason kept came h = let y = one_is _ (acts.Spoiled x reason kept came) did same h in absurd cc
step_spoiled s d did none keeps (reveals sum due free leaf same is) x reason kept came h = let y = one_is _ (acts.Spoiled x reason kept came) did same h in absurd cc
step_spoiled s d did none keeps (signs sum b due free leaf same is) x reason kept came h = let y = one_is _ (acts.Spoiled x reason kept came) did same h in absurd cc
step_spoiled s d did none keeps (signs_thin b due free leaf same is) x reason kept came h = let y = one_is _ (acts.Spoiled x reason kept came) did same h in absurd cc
step_spoiled s d did none keeps (certifies b e agreed of can same is) x reason kept came h =
    elim (first_or_later (acts.Certified e) (acts.Post (everyone_of s.seat) e.bytes ∷ []) (acts.Spoiled x reason kept came) (subst (λ (xs : List Act). Contains xs (acts.Spoiled x reason kept came)) same h)) [
      | inl it ↦ absurd cc
      | inr behind ↦ let y = only _ (acts.Spoiled x reason kept came) behind in absurd cc
    ]
step_spoiled s d did none keeps (commit_conflicts sum other due conflicts same is) x reason kept came h =
    let it = spoiled_is _ x _ reason _ _ kept came (one_is _ (acts.Spoiled x reason kept came) did same h) in
    let unsaid = subst (λ (z : Stage). AreUnsaid z s) due.stage none in
    inr (conflict_forged s _ other x conflicts unsaid.0 keeps (ap (λ (z : ServerId). z.0) (sym it.0)))
step_spoiled s d did none keeps (reveal_conflicts sum other due conflicts same is) x reason kept came h =
    let it = spoiled_is _ x _ reason _ _ kept came (one_is _ (acts.Spoiled x reason kept came) did same h) in
    let unsaid = subst (λ (z : Stage). AreUnsaid z s) due.stage none in
    inr (conflict_forged s _ other x conflicts unsaid.0 keeps (ap (λ (z : ServerId). z.0) (sym it.0)))
step_spoiled s d did none keeps (body_opposed sum b j other due against same is) x reason kept came h =
    inl (sym (spoiled_is _ x _ reason _ _ kept came (one_is _ (acts.Spoiled x reason kept came) did same h)).1)
step_spoiled s d did none keeps (thin_opposed b j other due against same is) x reason kept came h =
    inl (sym (spoiled_is _ x _ reason _ _ kept came (one_is _ (acts.Spoiled x reason kept came) did same h)).1)

-- what comes later isn't signed yet after a step
pub said_none_more : (s d : ServerView) (t : Statement) (kind : ℕ) → d.signed ≡ s.signed ++ t ∷ [] → d.run.r ≡ s.run.r → kind_byte t ≢ kind → HasSaidNone s kind → HasSaidNone d kind
said_none_more s d t kind is same other none u h round =
    elim (Contains-append_cases s.signed (t ∷ []) u (subst (λ (us : List Statement). Contains us u) is h)) [
      | inl was ↦ none u was (round ∙ ap Some same)
      | inr now ↦ λ k. other (ap kind_byte (only t u now) ∙ k)
    ]

step_unsaid : (s d : ServerView) (did : List Act) → AreUnsaid s.run.stage s → Step s did d → d.run.is_running ≡ true → AreUnsaid d.run.stage d
step_unsaid s d did none (commits sum due free leaf same is) on =
    let unsaid = subst (λ (z : Stage). AreUnsaid z s) due.stage none in
    let signed = ap (λ (z : ServerView). z.signed) is in
    let round = ap (λ (z : ServerView). z.run.r) is in
    subst (λ (z : Stage). AreUnsaid z d) (ap (λ (z : ServerView). z.run.stage) (sym is)) (
      said_none_more s d (commitment_of s sum) 5 signed round (λ k. absurd cc) unsaid.1,
      said_none_more s d (commitment_of s sum) 6 signed round (λ k. absurd cc) unsaid.2,
    )
step_unsaid s d did none (reveals sum due free leaf same is) on =
    let unsaid = subst (λ (z : Stage). AreUnsaid z s) due.stage none in
    subst (λ (z : Stage). AreUnsaid z d) (ap (λ (z : ServerView). z.run.stage) (sym is))
    (said_none_more s d (kinds.Reveal s.run.r sum.s) 6 (ap (λ (z : ServerView). z.signed) is) (ap (λ (z : ServerView). z.run.r) is) (λ k. absurd cc) unsaid.1)
step_unsaid s d did none (signs sum b due free leaf same is) on = subst (λ (z : Stage). AreUnsaid z d) (ap (λ (z : ServerView). z.run.stage) (sym is)) tt
step_unsaid s d did none (signs_thin b due free leaf same is) on = subst (λ (z : Stage). AreUnsaid z d) (ap (λ (z : ServerView). z.run.stage) (sym is)) tt
step_unsaid s d did none (certifies b e agreed of can same is) on = let x = ap (λ (z : ServerView). z.run.is_running) (sym is) ∙ on in absurd cc
step_unsaid s d did none (commit_conflicts sum other due conflicts same is) on = let x = ap (λ (z : ServerView). z.run.is_running) (sym is) ∙ on in absurd cc
step_unsaid s d did none (reveal_conflicts sum other due conflicts same is) on = let x = ap (λ (z : ServerView). z.run.is_running) (sym is) ∙ on in absurd cc
step_unsaid s d did none (body_opposed sum b j other due against same is) on = let x = ap (λ (z : ServerView). z.run.is_running) (sym is) ∙ on in absurd cc
step_unsaid s d did none (thin_opposed b j other due against same is) on = let x = ap (λ (z : ServerView). z.run.is_running) (sym is) ∙ on in absurd cc

pub steps_spoiled : (s d : ServerView) (did : List Act) → s.seat.number < servers_in s → (s.run.is_running ≡ true → AreUnsaid s.run.stage s) → KeepsRound s → Steps s did d
    → (x : ServerId) (reason : SpoilReason) (kept came : List ℕ) → Contains did (acts.Spoiled x reason kept came) → IsSpoilt s reason x
steps_spoiled s d did within none keeps (no_step same is) x reason kept came h =
    absurd (nothing _ (subst (λ (xs : List Act). Contains xs (acts.Spoiled x reason kept came)) same h))
steps_spoiled s d did within none keeps (one_more first rest between on step steps same) x reason kept came h =
    let one = step_by s first between within step in
    let within_too = subst (λ (z : Seat). z.number < servers_in (record s { seat = z })) (sym one.seat) within in
    elim (Contains-append_cases first rest (acts.Spoiled x reason kept came) (subst (λ (xs : List Act). Contains xs (acts.Spoiled x reason kept came)) same h)) [
      | inl now ↦ step_spoiled s between first (none on) keeps step x reason kept came now
      | inr behind ↦ elim (steps_spoiled between d rest within_too (step_unsaid s between first (none on) step) (round_kept s between first one keeps) steps x reason kept came behind) [
        | inl body ↦ inl body
        | inr forged ↦ inr (forged_before s between first x one forged)
      ]
    ]

-- ---- what it opened

past_stays : (pasts : List Past) (past : Past) (r : ℕ) (found_one : Past) → past_of pasts r ≡ Some found_one → past_of (pasts ++ past ∷ []) r ≡ Some found_one
past_stays [] past r found_one e = absurd cc
past_stays (p ∷ ps) past r found_one e =
    elim (cases_Bool (p.body.r.0 == r)) [
      | inl is ↦ rw is (rw is at e)
      | inr other ↦ rw other (past_stays ps past r found_one (rw other at e))
    ]

-- a core that keeps what it opened and kept of openings, what it signed and its pasts
pub opened_more : (roster : RosterView) (s d : ServerView) → d.evidence ≡ s.evidence → d.opened ≡ s.opened
    → ((r : ℕ) (past : Past) → past_of s.pasts r ≡ Some past → past_of d.pasts r ≡ Some past) → ((t : Statement) → Contains s.signed t → Contains d.signed t)
    → KeepsOpenings roster s → KeepsOpenings roster d
opened_more roster s d evidence opened pasts signed h = record {
  evidence = λ said at. h.evidence said (subst (λ (xs : List SaidView). Contains xs said) evidence at);
  opened = λ place at.
      let past = h.opened place (subst (λ (xs : List OpenedPlace). Contains xs place) opened at) in
      (past.0, pasts place.r.0 past.0 past.1, signed (shown_of past.0) past.2);
}

-- a core that signs a statement more
one_more_signed : (s d : ServerView) (t : Statement) → d.signed ≡ s.signed ++ t ∷ [] → (u : Statement) → Contains s.signed u → Contains d.signed u
one_more_signed s d t is u h = subst (λ (us : List Statement). Contains us u) (sym is) (Contains-append_left s.signed (t ∷ []) u h)

same_pasts : (s d : ServerView) → d.pasts ≡ s.pasts → (r : ℕ) (past : Past) → past_of s.pasts r ≡ Some past → past_of d.pasts r ≡ Some past
same_pasts s d is r past e = ap (λ (ps : List Past). past_of ps r) is ∙ e

more_pasts : (s d : ServerView) (new : Past) → d.pasts ≡ s.pasts ++ new ∷ [] → (r : ℕ) (past : Past) → past_of s.pasts r ≡ Some past → past_of d.pasts r ≡ Some past
more_pasts s d new is r past e = ap (λ (ps : List Past). past_of ps r) is ∙ past_stays s.pasts new r past e

same_signed : (s d : ServerView) → d.signed ≡ s.signed → (u : Statement) → Contains s.signed u → Contains d.signed u
same_signed s d is u h = subst (λ (us : List Statement). Contains us u) (sym is) h

-- a step opens nothing
step_opens_none : (roster : RosterView) (s d : ServerView) (did : List Act) → Step s did d → KeepsOpenings roster s → KeepsOpenings roster d
step_opens_none roster s d did (commits sum due free leaf same is) h =
    opened_more roster s d (ap (λ (z : ServerView). z.evidence) is) (ap (λ (z : ServerView). z.opened) is)
    (same_pasts s d (ap (λ (z : ServerView). z.pasts) is)) (one_more_signed s d (commitment_of s sum) (ap (λ (z : ServerView). z.signed) is)) h
step_opens_none roster s d did (reveals sum due free leaf same is) h =
    opened_more roster s d (ap (λ (z : ServerView). z.evidence) is) (ap (λ (z : ServerView). z.opened) is)
    (same_pasts s d (ap (λ (z : ServerView). z.pasts) is)) (one_more_signed s d (kinds.Reveal s.run.r sum.s) (ap (λ (z : ServerView). z.signed) is)) h
step_opens_none roster s d did (signs sum b due free leaf same is) h =
    opened_more roster s d (ap (λ (z : ServerView). z.evidence) is) (ap (λ (z : ServerView). z.opened) is)
    (more_pasts s d (past_with sum b) (ap (λ (z : ServerView). z.pasts) is)) (one_more_signed s d (kinds.Sign b) (ap (λ (z : ServerView). z.signed) is)) h
step_opens_none roster s d did (signs_thin b due free leaf same is) h =
    opened_more roster s d (ap (λ (z : ServerView). z.evidence) is) (ap (λ (z : ServerView). z.opened) is)
    (more_pasts s d (thin_past b) (ap (λ (z : ServerView). z.pasts) is)) (one_more_signed s d (kinds.Sign b) (ap (λ (z : ServerView). z.signed) is)) h
step_opens_none roster s d did (certifies b e agreed of can same is) h =
    opened_more roster s d (ap (λ (z : ServerView). z.evidence) is) (ap (λ (z : ServerView). z.opened) is)
    (same_pasts s d (ap (λ (z : ServerView). z.pasts) is)) (same_signed s d (ap (λ (z : ServerView). z.signed) is)) h
step_opens_none roster s d did (commit_conflicts sum other due conflicts same is) h =
    opened_more roster s d (ap (λ (z : ServerView). z.evidence) is) (ap (λ (z : ServerView). z.opened) is)
    (same_pasts s d (ap (λ (z : ServerView). z.pasts) is)) (same_signed s d (ap (λ (z : ServerView). z.signed) is)) h
step_opens_none roster s d did (reveal_conflicts sum other due conflicts same is) h =
    opened_more roster s d (ap (λ (z : ServerView). z.evidence) is) (ap (λ (z : ServerView). z.opened) is)
    (same_pasts s d (ap (λ (z : ServerView). z.pasts) is)) (same_signed s d (ap (λ (z : ServerView). z.signed) is)) h
step_opens_none roster s d did (body_opposed sum b j other due against same is) h =
    opened_more roster s d (ap (λ (z : ServerView). z.evidence) is) (ap (λ (z : ServerView). z.opened) is)
    (same_pasts s d (ap (λ (z : ServerView). z.pasts) is)) (same_signed s d (ap (λ (z : ServerView). z.signed) is)) h
step_opens_none roster s d did (thin_opposed b j other due against same is) h =
    opened_more roster s d (ap (λ (z : ServerView). z.evidence) is) (ap (λ (z : ServerView). z.opened) is)
    (same_pasts s d (ap (λ (z : ServerView). z.pasts) is)) (same_signed s d (ap (λ (z : ServerView). z.signed) is)) h

pub steps_open_none : (roster : RosterView) (s d : ServerView) (did : List Act) → Steps s did d → KeepsOpenings roster s → KeepsOpenings roster d
steps_open_none roster s d did (no_step same is) h = subst (KeepsOpenings roster) (sym is) h
steps_open_none roster s d did (one_more first rest between on step steps same) h = steps_open_none roster between d rest steps (step_opens_none roster s between first step h)
