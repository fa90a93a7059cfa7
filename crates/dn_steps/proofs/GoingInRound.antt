-- A server that goes on in its round acts in its round.
use Rattle.std.proofs.Common.{◌≡◌, ◌≢◌, ℕ, ◌<◌, ◌≤◌, List, [], ◌∷◌, ◌++◌, length, refl, sym, ap, subst, ◌∙◌, inl, inr, true, arith}
use Rattle.std.specs.Prelude.{Bool, Contains, ◌⊎◌, ◌==◌, not, map, filter, Option, Some, slice_get}
use Rattle.std.proofs.lemmas.Bool.{ne_eqb, cases_Bool}
use Rattle.std.proofs.lemmas.Option.{same_Some}
use Rattle.std.proofs.lemmas.List.Elements.{Contains-append_left, Contains-append_right, Contains-append_cases}
use Rattle.dn_wire.specs.declared.ids.ClientId.{ClientId}
use Rattle.dn_wire.specs.declared.ids.Member.{Member}
use Rattle.dn_wire.specs.declared.ids.Member.TheVariants as members
use Rattle.dn_wire.specs.declared.ids.ServerId.{ServerId}
use Rattle.dn_wire.specs.declared.ids.Round.{Round}
use Rattle.dn_wire.specs.declared.ids.SignerId.{SignerId}
use Rattle.dn_wire.specs.declared.ids.SignerId.TheVariants.{Server}
use Rattle.dn_bits.specs.Bits.{below}
use Rattle.dn_lms.specs.Key.{Key, IsKey, leaf_count}
use Rattle.dn_lms.specs.Signature.{public_key}
use Rattle.dn_record_types.specs.declared.body.Body.{Body}
use Rattle.dn_record_types.specs.declared.payload.Payload.TheVariants as payloads
use Rattle.dn_record_types.specs.declared.statement.Statement.{Statement}
use Rattle.dn_record_types.specs.declared.statement.Statement.TheVariants as kinds
use Rattle.dn_record_types.proofs.RecordLaws.{payload_once}
use Rattle.dn_records.specs.Records.{payload_bytes}
use Rattle.dn_roster.specs.Roster.{RosterView, key_of}
use Rattle.dn_seal.specs.Dealt.{server}
use Rattle.dn_seal.specs.Said.{SaidView}
use Rattle.dn_seal.specs.Signer.{CanSign, sealed_bytes}
use Rattle.dn_cert.specs.Certificate.{CertificateView, IsCertificate, IsCertificateUnder}
use Rattle.dn_cert.specs.Chain.{ChainView, LayoutAfter, IsLayoutAfter, bodies}
use Rattle.dn_cert.specs.Chain.LayoutAfter.{at_first, after_prev}
use Rattle.dn_cert.proofs.ListLemmas.{Contains-map}
use Rattle.dn_cert.proofs.Orders.{here, later, nothing, first_or_later}
use Rattle.dn_server.specs.declared.act.Act.{Act}
use Rattle.dn_server.specs.declared.act.Act.TheVariants as acts
use Rattle.dn_server.specs.declared.act.SpoilReason.{SpoilReason}
use Rattle.dn_server.specs.declared.act.SpoilReason.TheVariants as reasons
use Rattle.dn_server.specs.declared.claims.Claim.{Claim}
use Rattle.dn_server.specs.Justified.{Seat}
use Rattle.dn_server.specs.Keeping.{round_of}
use Rattle.dn_server.specs.Server.{ServerView, itself, servers_in, others_of, everyone_of, client_member, server_member}
use Rattle.dn_rounds.specs.Going.{Step, Steps}
use Rattle.dn_rounds.specs.Going.Step.{commits, reveals, signs, signs_thin, certifies, commit_conflicts, reveal_conflicts, body_opposed, thin_opposed}
use Rattle.dn_rounds.specs.Going.Steps.{no_step, one_more}
use Rattle.dn_exchange.specs.Disciplined.{Disciplined}
use Rattle.dn_exchange.specs.Spoiling.{OwnBodiesAreDue}
use Rattle.dn_headline.specs.Group.{IsServer}
use Rattle.dn_headline.specs.Run.{RunView}
use Rattle.dn_headline.specs.Spoken.{Says, IsInFront, WasSaid}
use Rattle.dn_headline.specs.Delivered.{IsPhaseOf}
use Rattle.dn_headline.specs.Invariant.{HoldsOneEach, seat_of, word_of}
use Rattle.dn_headline.proofs.RunStrings.{below_has}
use Rattle.dn_links.specs.Going.{IsSealedBy, Certifies, KeepsRound, GoesBy}
use Rattle.dn_links.specs.Link.{IsLinked, IsOfRecord}
use Rattle.dn_links.proofs.Going.{step_by}
use Rattle.dn_steps.specs.Openings.{KeepsOpenings}
use Rattle.dn_steps.proofs.Idle.{clash}
use Rattle.dn_steps.proofs.Places.{only}
use Rattle.dn_steps.proofs.OwnPuts.{plain_goes}
use Rattle.dn_steps.proofs.Carrying.{AreCarried, carried_too}
use Rattle.dn_steps.proofs.Carrying.AreCarried.{nothing_is, posts, certifies as carries, tells}
use Rattle.dn_steps.proofs.GoingSteps.{IsGoing, IsHeldBy, IsSpoilt, IsForged}
use Rattle.dn_steps.proofs.InRound.{ActsInRound, IsPosted, PostsIt, Spoils}
use Rattle.dn_steps.proofs.InRound.Spoils.{forged, body_said}
use Rattle.dn_steps.proofs.Sealing.{IsSealedOf, says_so, front_so}

-- ---- its acts can be carried out

-- a list that has an element isn't empty
begins_with : {A : Type 0} (xs : List A) (x : A) → Contains xs x → (m : A) × (ms : List A) × (xs ≡ m ∷ ms)
begins_with [] x h = absurd (nothing x h)
begins_with (m ∷ ms) x h = (m, ms, refl)

everyone_is : (seat : Seat) → 1 ≤ length seat.roster.clients → (m : Member) × (ms : List Member) × (everyone_of seat ≡ m ∷ ms)
everyone_is seat some =
    begins_with (everyone_of seat) (client_member 0)
    (Contains-append_left (map client_member (below (length seat.roster.clients))) (others_of seat) (client_member 0)
    (Contains-map client_member (below (length seat.roster.clients)) 0 (below_has (length seat.roster.clients) 0 some)))

post_carried : (roster : RosterView) (to : List Member) (e : List ℕ) (did : List Act) → did ≡ acts.Post to (payload_bytes (payloads.Plain e)) ∷ [] → AreCarried roster did
post_carried roster to e did is =
    subst (AreCarried roster) (sym is) (posts to (payload_bytes (payloads.Plain e)) [] (plain_goes roster e to) nothing_is)

spoiling_carried : (roster : RosterView) (x : ServerId) (reason : SpoilReason) (kept came : List ℕ) (did : List Act) → did ≡ acts.Spoiled x reason kept came ∷ [] → AreCarried roster did
spoiling_carried roster x reason kept came did is = subst (AreCarried roster) (sym is) (tells (acts.Spoiled x reason kept came) [] tt nothing_is)

step_carried : (s d : ServerView) (did : List Act) → 1 ≤ length s.seat.roster.clients → Step s did d → AreCarried s.seat.roster did
step_carried s d did some (commits sum due free leaf same is) = post_carried s.seat.roster _ _ did same
step_carried s d did some (reveals sum due free leaf same is) = post_carried s.seat.roster _ _ did same
step_carried s d did some (signs sum b due free leaf same is) = post_carried s.seat.roster _ _ did same
step_carried s d did some (signs_thin b due free leaf same is) = post_carried s.seat.roster _ _ did same
step_carried s d did some (certifies b e agreed of can same is) =
    let all = everyone_is s.seat some in
    subst (AreCarried s.seat.roster) (sym (same ∙ ap (λ (to : List Member). acts.Certified e ∷ acts.Post to e.bytes ∷ []) all.2))
    (carries e all.0 all.1 e.bytes [] of.certificate of.under refl nothing_is)
step_carried s d did some (commit_conflicts sum other due conflicts same is) = spoiling_carried s.seat.roster _ _ _ _ did same
step_carried s d did some (reveal_conflicts sum other due conflicts same is) = spoiling_carried s.seat.roster _ _ _ _ did same
step_carried s d did some (body_opposed sum b j other due against same is) = spoiling_carried s.seat.roster _ _ _ _ did same
step_carried s d did some (thin_opposed b j other due against same is) = spoiling_carried s.seat.roster _ _ _ _ did same

pub steps_carried : (s d : ServerView) (did : List Act) → s.seat.number < servers_in s → 1 ≤ length s.seat.roster.clients → Steps s did d → AreCarried s.seat.roster did
steps_carried s d did within some (no_step same is) = subst (AreCarried s.seat.roster) (sym same) nothing_is
steps_carried s d did within some (one_more first rest between on step steps same) =
    let one = step_by s first between within step in
    let within_too = subst (λ (z : Seat). z.number < servers_in (record s { seat = z })) (sym one.seat) within in
    let some_too = subst (λ (z : Seat). 1 ≤ length z.roster.clients) (sym one.seat) some in
    subst (AreCarried s.seat.roster) (sym same)
    (carried_too s.seat.roster first rest (step_carried s between first some step)
    (subst (λ (z : Seat). AreCarried z.roster rest) one.seat (steps_carried between d rest within_too some_too steps)))

-- ---- what is in front of what it posts

-- nothing stands in front of a certificate
pub certificate_front : (roster : RosterView) (e : CertificateView) (bytes : List ℕ) (who : SignerId) (t : Statement) → IsCertificate e → bytes ≡ e.bytes → IsInFront roster bytes who t → ⊥
certificate_front roster e bytes who t is same front =
    elim front [
      | inl says ↦ absurd (not_plain says.envelope (payload_once (payloads.Plain says.envelope) (payloads.Certificate e.body is.signatures) says.is.fits is.signed.fits
          (sym says.is.spelled ∙ same ∙ is.spelled)))
      | inr submits ↦ let s = submits.1 in
          absurd (not_submission submits.0 s.envelope (payload_once (payloads.Submission submits.0 s.envelope) (payloads.Certificate e.body is.signatures) s.is.fits is.signed.fits
          (sym s.is.spelled ∙ same ∙ is.spelled)))
    ]
  where
    not_plain : (x : List ℕ) → payloads.Plain x ≡ payloads.Certificate e.body is.signatures → ⊥
    not_plain x eq = absurd cc

    not_submission : (cipher : List Bool) (x : List ℕ) → payloads.Submission cipher x ≡ payloads.Certificate e.body is.signatures → ⊥
    not_submission cipher x eq = absurd cc

-- ---- a statement of the round, and of its kinds

pub round_is_record : (d : ServerView) (t : Statement) → round_of t ≡ Some d.run.r → IsOfRecord d t
round_is_record d (kinds.Submission r prev i digest) e = absurd cc
round_is_record d (kinds.Receipt r i digest word) e = absurd cc
round_is_record d (kinds.Inventory v) e = same_Some v.r d.run.r e
round_is_record d (kinds.Commit r digest) e = same_Some r d.run.r e
round_is_record d (kinds.Reveal r sum) e = same_Some r d.run.r e
round_is_record d (kinds.Sign b) e = same_Some b.r d.run.r e
round_is_record d (kinds.PadBits r k bits) e = tt
round_is_record d (kinds.Shown r sum ciphers) e = tt
round_is_record d (kinds.Accusation r s k) e = tt
round_is_record d (kinds.Rebuttal r k x seed envelope) e = tt
round_is_record d (kinds.Concede r k) e = tt

filter_keeps : {A : Type 0} (p : A → Bool) (xs : List A) (x : A) → p x ≡ true → Contains xs x → Contains (filter p xs) x
filter_keeps p [] x passes h = absurd (nothing x h)
filter_keeps p (y ∷ ys) x passes h =
    elim (cases_Bool (p y)) [
      | inl kept ↦ rw kept (elim (first_or_later y ys x h) [
        | inl is ↦ subst (λ z. Contains (y ∷ filter p ys) z) is (here y (filter p ys))
        | inr behind ↦ later y (filter p ys) x (filter_keeps p ys x passes behind)
      ])
      | inr gone ↦ rw gone (elim (first_or_later y ys x h) [
        | inl is ↦ absurd (clash (p y) (ap p is ∙ passes) gone)
        | inr behind ↦ filter_keeps p ys x passes behind
      ])
    ]

-- another server of the group is among those to whom a server posts
pub among_others : (seat : Seat) (k : ServerId) → k.0 < length seat.roster.servers → k.0 ≢ seat.number → Contains (others_of seat) (members.Server k)
among_others seat k within other =
    Contains-map server_member (filter (λ (n : ℕ). not (n == seat.number)) (below (length seat.roster.servers))) k.0
    (filter_keeps (λ (n : ℕ). not (n == seat.number)) (below (length seat.roster.servers)) k.0 (ap not (ne_eqb k.0 seat.number other)) (below_has (length seat.roster.servers) k.0 within))

-- ---- the core goes on from a record that differs from its own only in its window and in what it keeps

-- what the core goes on from
pub record StartsAs (w : RunView) (c s : ServerView) : Type 0 where
  pub seat : s.seat ≡ c.seat
  pub key : s.key ≡ c.key
  pub chain : s.chain ≡ c.chain
  pub signed : s.signed ≡ c.signed
  pub evidence : s.evidence ≡ c.evidence
  pub opened : s.opened ≡ c.opened
  pub pasts : s.pasts ≡ c.pasts
  pub r : s.run.r ≡ c.run.r
  pub prev : s.run.prev ≡ c.run.prev
  pub claims : s.run.claims ≡ c.run.claims
  pub running : s.run.is_running ≡ c.run.is_running
  pub closed : c.run.window.closed ≡ true → s.run.window.closed ≡ true
  pub keeps : (said : SaidView) → Contains c.run.kept said → Contains s.run.kept said
  pub kept : (said : SaidView) → Contains s.run.kept said → Contains c.run.kept said
      ⊎ ((round_of said.statement ≡ Some c.run.r) × WasSaid w said.signer said.statement)

module _ (w : RunView) (j : ServerId) (c s d : ServerView) (link : IsLinked w j c) (known : key_of w.group.roster (Server j) ≡ Some (public_key c.key))
    (starts : StartsAs w c s) where
  seat_is : s.seat ≡ seat_of w.group j
  seat_is = starts.seat ∙ link.seat

  number : s.seat.number ≡ j.0
  number = ap (λ (z : Seat). z.number) seat_is

  itself_is : itself s ≡ Server j
  itself_is = ap server number

  pub kept_round : KeepsRound s
  kept_round said h =
      elim (starts.kept said h) [
        | inl old ↦ link.kept_round said old ∙ ap Some (sym starts.r)
        | inr now ↦ now.0 ∙ ap Some (sym starts.r)
      ]

  -- what it keeps was said
  kept_said : (said : SaidView) → Contains s.run.kept said → WasSaid w said.signer said.statement
  kept_said said h = elim (starts.kept said h) [ inl old ↦ link.kept said old | inr now ↦ now.1 ]

  -- what spoils the steps from there spoils the round: a body that is due, or a statement that was said under the server's number and that it didn't sign
  pub spoils_so : (x : ServerId) (reason : SpoilReason) (kept came : List ℕ) (did : List Act) → IsSpoilt s reason x → OwnBodiesAreDue d did
      → Contains did (acts.Spoiled x reason kept came) → Spoils w j c d x
  spoils_so x reason kept came did spoilt due h =
      elim spoilt [
        | inl body ↦ body_said kept (due x kept came (subst (λ (r : SpoilReason). Contains did (acts.Spoiled x r kept came)) body h))
        | inr it ↦ forged it.said.statement (let make : ℕ → ServerId = λ n. record { 0 = n } in ap make (it.number ∙ number))
            (subst (λ (who : SignerId). WasSaid w who it.said.statement) (it.by ∙ itself_is) (kept_said it.said it.among))
            (λ was. it.unsigned (subst (λ (ss : List Statement). Contains ss it.said.statement) (sym starts.signed) was))
      ]

  module _ (front did : List Act) (by : GoesBy s did d) (disciplined : Disciplined d) (closing : (a : Act) → Contains front a
      → ((count : ℕ) × (a ≡ acts.Closed c.run.r count)) × (s.run.window.closed ≡ true))
      (going : (a : Act) → Contains did a → IsGoing a) (certified : (e : CertificateView) → Contains did (acts.Certified e) → IsHeldBy d s.run.r e)
      (spoiled : (x : ServerId) (reason : SpoilReason) (kept came : List ℕ) → Contains did (acts.Spoiled x reason kept came) → Spoils w j c d x)
      (openings : KeepsOpenings w.group.roster c → KeepsOpenings w.group.roster d) where
    same_seat : d.seat ≡ c.seat
    same_seat = by.seat ∙ starts.seat

    roster_is : s.seat.roster ≡ w.group.roster
    roster_is = ap (λ (z : Seat). z.roster) seat_is

    signed_is : d.signed ≡ c.signed ++ by.fresh
    signed_is = by.signed ∙ ap (λ (ss : List Statement). ss ++ by.fresh) starts.signed

    fresh_in : (t : Statement) → Contains by.fresh t → Contains d.signed t
    fresh_in t h = subst (λ (ss : List Statement). Contains ss t) (sym signed_is) (Contains-append_right c.signed by.fresh t h)

    -- ---- what it posts

    can_sign : (t : Statement) → Contains by.fresh t → CanSign (Server j) t
    can_sign t h = subst (λ (who : SignerId). CanSign who t) (ap (λ (z : Seat). server z.number) (same_seat ∙ link.seat)) (disciplined.fits t (fresh_in t h))

    sealed_is : (t : Statement) (bytes : List ℕ) → Contains by.fresh t → IsSealedBy s t bytes → IsSealedOf w.group.roster j c.key t bytes
    sealed_is t bytes h is = record {
      can = can_sign t h;
      leaf = is.0;
      low = subst (λ (k : Key). is.0 < leaf_count k) starts.key is.1;
      spelled = is.2 ∙ (λ i. payload_bytes (payloads.Plain (sealed_bytes (roster_is i) (itself_is i) (starts.key i) is.0 t)));
    }

    is_key : IsKey c.key
    is_key = subst IsKey (by.key ∙ starts.key) disciplined.is_key

    -- ---- which acts there are

    front_or_going : (a : Act) → Contains (front ++ did) a → (((count : ℕ) × (a ≡ acts.Closed c.run.r count)) × (s.run.window.closed ≡ true)) ⊎ (Contains did a × IsGoing a)
    front_or_going a h = elim (Contains-append_cases front did a h) [ inl f ↦ inl (closing a f) | inr g ↦ inr (g, going a g) ]

    posted_in : (to : List Member) (bytes : List ℕ) → Contains (front ++ did) (acts.Post to bytes) → Contains did (acts.Post to bytes)
    posted_in to bytes h = elim (front_or_going (acts.Post to bytes) h) [ inl f ↦ absurd (let e = f.0.1 in cc) | inr g ↦ g.0 ]

    certified_in : (e : CertificateView) → Contains (front ++ did) (acts.Certified e) → Contains did (acts.Certified e)
    certified_in e h = elim (front_or_going (acts.Certified e) h) [ inl f ↦ absurd (let x = f.0.1 in cc) | inr g ↦ g.0 ]

    spoiled_in : (x : ServerId) (reason : SpoilReason) (kept came : List ℕ) → Contains (front ++ did) (acts.Spoiled x reason kept came) → Contains did (acts.Spoiled x reason kept came)
    spoiled_in x reason kept came h = elim (front_or_going (acts.Spoiled x reason kept came) h) [ inl f ↦ absurd (let e = f.0.1 in cc) | inr g ↦ g.0 ]

    closes_so : (q : Round) (count : ℕ) → Contains (front ++ did) (acts.Closed q count) → (q ≡ c.run.r) × (d.run.window.closed ≡ true)
    closes_so q count h = elim (front_or_going (acts.Closed q count) h) [ inl f ↦ (let e = f.0.1 in cc, by.closed f.1) | inr g ↦ absurd g.1 ]

    -- ---- the round that a body follows

    prev_before : (b : Body) → Contains by.fresh (kinds.Sign b) → (b.prev.0 ≡ 0) ⊎ ((e : Body) × Contains (bodies c.chain) e × (e.r ≡ b.prev))
    prev_before b h =
        let round : b.r ≡ d.run.r = same_Some b.r s.run.r (by.of_round (kinds.Sign b) h) ∙ sym by.r in
        let just = disciplined.signs b (fresh_in (kinds.Sign b) h) round in
        by_layout just.layout just.after just.before round
      where
        by_layout : (layout : List ℕ) → IsLayoutAfter d.chain b.prev.0 layout → b.prev.0 < b.r.0 → b.r ≡ d.run.r → (b.prev.0 ≡ 0) ⊎ ((e : Body) × Contains (bodies c.chain) e × (e.r ≡ b.prev))
        by_layout layout (at_first zero lengths) less round = inl zero
        by_layout layout (after_prev e before there is rest lengths) less round =
            elim (by.new e there) [
              | inl old ↦ inr (e, subst (λ (z : ChainView). Contains (bodies z) e) starts.chain old, (let make : ℕ → Round = λ n. record { 0 = n } in ap make is))
              | inr new ↦
                  let held = certified new.0 new.1.told in
                  let at : e.r.0 ≡ s.run.r.0 = ap (λ (z : Body). z.r.0) (sym new.2) ∙ ap (λ (q : Round). q.0) held.0 in
                  let same : b.r.0 ≡ s.run.r.0 = ap (λ (q : Round). q.0) (round ∙ by.r) in
                  absurd (omega (arith, at, same, less, is))
            ]

    -- ---- all of it

    pub in_round : IsServer w.group j → ActsInRound w j c (front ++ did) d by.fresh
    in_round within = record {
      seat = same_seat;
      key = by.key ∙ starts.key;
      r = by.r ∙ starts.r;
      prev = by.prev ∙ starts.prev;
      stays_closed = λ h. by.closed (starts.closed h);
      keeps = λ said h. by.keeps said (starts.keeps said h);
      kept = λ said h. elim (by.kept said h) [
        | inl old ↦ elim (starts.kept said old) [ inl was ↦ inl was | inr now ↦ inr (now.0, inr now.1) ]
        | inr own ↦ inr (by.of_round said.statement own.0 ∙ ap Some starts.r, inl (own.0, own.1 ∙ itself_is))
      ];
      none_opened = λ q p h. elim (front_or_going (acts.Opened q p) h) [ inl f ↦ let e = f.0.1 in cc | inr g ↦ g.1 ];
      closes = closes_so;
      told = λ i q t h. elim (front_or_going (acts.Told i q t) h) [ inl f ↦ absurd (let e = f.0.1 in cc) | inr g ↦ absurd g.1 ];
      claims = λ i claim h. inl (subst (λ (cs : List (Option Claim)). slice_get cs i.0 ≡ Some (Some claim)) (by.claims ∙ starts.claims) h);
      claimed = λ i claim h. subst (λ (cs : List (Option Claim)). slice_get cs i.0 ≡ Some (Some claim)) (sym (by.claims ∙ starts.claims)) h;
      told_claimed = λ i word h. elim (front_or_going (acts.Told i c.run.r (word_of word)) h) [ inl f ↦ absurd (let e = f.0.1 in cc) | inr g ↦ absurd g.1 ];
      signed = signed_is;
      of_record = λ t h. round_is_record d t (by.of_round t h ∙ ap Some (sym by.r));
      posted = λ t h.
          let it = by.posted t h in
          let sealed = sealed_is t it.0 h it.1 in
          record {
            to = others_of s.seat;
            bytes = it.0;
            posted = Contains-append_right front did (acts.Post (others_of s.seat) it.0) it.2;
            says = says_so w.group.roster j c.key known is_key t it.0 sealed;
            others = λ r k phase hk ne. among_others s.seat k (subst (λ (z : RosterView). k.0 < length z.servers) (sym roster_is) hk) (λ e. ne (sym (e ∙ number)));
          };
      fronts = λ to bytes h who t front_is. elim (by.posts to bytes (posted_in to bytes h)) [
        | inl sealed ↦
            let is = front_so w.group.roster j c.key known is_key sealed.0 bytes (sealed_is sealed.0 bytes sealed.1 sealed.2) who t front_is in
            (is.0, fresh_in t (subst (Contains by.fresh) (sym is.1) sealed.1))
        | inr e ↦ absurd (certificate_front w.group.roster e.0 bytes who t e.1.certificate e.2 front_is)
      ];
      prev_held = prev_before;
      grows = record {
        slots = by.slots ∙ ap (λ (z : ChainView). z.slots) starts.chain;
        held = λ b h. by.held b (subst (λ (z : ChainView). Contains (bodies z) b) (sym starts.chain) h);
      };
      one_each = λ one. by.one_each (subst HoldsOneEach (sym starts.chain) one);
      new_held = λ b h. elim (by.new b h) [
        | inl old ↦ inl (subst (λ (z : ChainView). Contains (bodies z) b) starts.chain old)
        | inr new ↦ inr (
          new.0,
          record {
            certificate = new.1.certificate;
            under = subst (λ (z : RosterView). IsCertificateUnder z new.0) roster_is new.1.under;
            to = everyone_of s.seat;
            posted = Contains-append_right front did (acts.Post (everyone_of s.seat) new.0.bytes) new.1.posted;
          },
          new.2,
        )
      ];
      certified = λ e h. (e.body, (certified e (certified_in e h)).1, refl);
      none_held = λ q h. elim (front_or_going (acts.Held q) h) [ inl f ↦ let e = f.0.1 in cc | inr g ↦ g.1 ];
      runs_on = λ on. sym starts.running ∙ by.runs_on on;
      ran = λ on. elim (by.ends kept_round (starts.running ∙ on)) [
        | inl runs ↦ inl runs
        | inr over ↦ inr (elim over [
          | inl e ↦ inl (e.0, Contains-append_right front did (acts.Certified e.0) e.1.told, e.2 ∙ starts.r)
          | inr x ↦ inr (x.0, x.1, x.2, x.3, Contains-append_right front did (acts.Spoiled x.0 x.1 x.2 x.3) x.4)
        ])
      ];
      spoiled = λ x reason kept came h. spoiled x reason kept came (spoiled_in x reason kept came h);
      openings = openings;
    }
