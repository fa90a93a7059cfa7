-- A certificate that a server made is told, and posted right after it.
use Rattle.std.proofs.Common.{◌≡◌, ℕ, ◌<◌, length, List, [], ◌∷◌, ◌++◌, refl, sym, ap, subst, ◌∙◌, inl, inr, Bool, true, false, cond}
use Rattle.std.specs.Prelude.{Contains, ◌⊎◌, slice_get, Some, map}
use Rattle.std.proofs.lemmas.Bool.{cases_Bool}
use Rattle.std.proofs.lemmas.Option.{same_Some}
use Rattle.std.proofs.lemmas.List.Elements.{Contains-append_left, Contains-append_cases}
use Rattle.dn_wire.specs.declared.ids.Member.{Member}
use Rattle.dn_wire.specs.declared.ids.Member.TheVariants as members
use Rattle.dn_wire.specs.declared.ids.ServerId.{ServerId}
use Rattle.dn_wire.specs.declared.ids.Round.{Round}
use Rattle.dn_record_types.specs.declared.body.Body.{Body}
use Rattle.dn_record_types.specs.declared.payload.Payload.TheVariants as payloads
use Rattle.dn_record_types.proofs.RecordLaws.{payload_once}
use Rattle.dn_roster.specs.Roster.{RosterView}
use Rattle.dn_cert.specs.Certificate.{CertificateView, IsCertificate, IsCertificateUnder}
use Rattle.dn_cert.specs.Chain.{ChainView, CanFollow}
use Rattle.dn_cert.specs.declared.opened.Opened.TheVariants as opened
use Rattle.dn_cert.proofs.GrowthLemmas.{held_comes}
use Rattle.dn_cert.proofs.Orders.{here, later, nothing, first_or_later}
use Rattle.dn_payloads.specs.declared.content.Content.{Content}
use Rattle.dn_payloads.specs.declared.content.Content.TheVariants as contents
use Rattle.dn_payloads.specs.Payloads.{PayloadView, PayloadsView, IsContent, IsNumberedBy}
use Rattle.dn_server.specs.declared.act.Act.{Act}
use Rattle.dn_server.specs.declared.act.Act.TheVariants as acts
use Rattle.dn_report.specs.declared.outcome.Outcome.{Outcome}
use Rattle.dn_report.specs.declared.outcome.Outcome.TheVariants as outcomes
use Rattle.dn_state.specs.declared.putting.Sender.{Sender}
use Rattle.dn_state.specs.Parts.{PartsView}
use Rattle.dn_state.specs.Doing.{Tells, Then, own}
use Rattle.dn_state.specs.Putting.{Puts, Follows, FollowsIn}
use Rattle.dn_state.specs.Putting.Follows.{held as follows, stays}
use Rattle.dn_state.specs.Telling.{with_told}
use Rattle.dn_state.specs.Acting.{TellsCertified}
use Rattle.dn_headline.specs.Group.{GroupView}
use Rattle.dn_headline.specs.Log.{Log, Message, Put, message_of, actor_after, with_outcomes, AreNumbered}
use Rattle.dn_headline.specs.Certified.{IsCertificateOf}
use Rattle.dn_steps.specs.Fitting.{FitsLog, FitsPayloads}
use Rattle.dn_steps.proofs.Places.{only, place_at_end, one_at}
use Rattle.dn_steps.proofs.Sending.{put_of, message_from, IsSentOrLost}
use Rattle.dn_steps.proofs.Following.{IsOther, certificate_of_content, other_content}
use Rattle.dn_steps.proofs.Putting.{PutsSo, GoesOrIsOther, puts_so}
use Rattle.dn_steps.proofs.PutLines.{puts_lines, puts_keep_members}
use Rattle.dn_steps.proofs.Resting.{SameMembers}
use Rattle.dn_steps.proofs.Runs.{is_of_put, unput_lines}
use Rattle.dn_steps.proofs.Taking.{IsPlain}
use Rattle.dn_steps.proofs.RoundLines.{told_plain, told_keeps}
use Rattle.dn_steps.proofs.Acting.{ActsSo, line_for, actors_after, outcomes_after, numbered_after, actors_both, puts_stay, quiet_stay, certified_first}

-- ---- what is put opens as its bytes say

content_of_put : (g : GroupView) (log : Log) (old new : PartsView) (sender : Sender) (to : List Member) (bytes : List ℕ) (lines : List Outcome) → FitsPayloads g.roster log old.payloads
    → old.payloads.roster ≡ g.roster → (h : Puts old sender to bytes new lines) → IsContent g.roster bytes h.payload.content
content_of_put g log old new sender to bytes lines fits opens h =
    elim (cases_Bool h.number.is_new) [
      | inl is_new ↦ of_new (subst (IsNumberedBy old.payloads bytes new.payloads h.number.number) is_new h.numbered)
      | inr is_old ↦ of_old (subst (IsNumberedBy old.payloads bytes new.payloads h.number.number) is_old h.numbered)
    ]
  where
    of_new : IsNumberedBy old.payloads bytes new.payloads h.number.number true → IsContent g.roster bytes h.payload.content
    of_new n =
        let x = n.2 in
        let at : slice_get (old.payloads.items ++ x ∷ []) h.number.number ≡ Some x =
        subst (λ (k : ℕ). slice_get (old.payloads.items ++ x ∷ []) k ≡ Some x) (sym n.1) (place_at_end old.payloads.items x) in
        let is : h.payload ≡ x = same_Some h.payload x (sym h.there ∙ ap (λ (v : PayloadsView). slice_get v.items h.number.number) n.5 ∙ at) in
        subst (λ (r : RosterView). IsContent r bytes h.payload.content) opens (subst (λ (y : PayloadView). IsContent old.payloads.roster bytes y.content) (sym is) n.4)

    of_old : IsNumberedBy old.payloads bytes new.payloads h.number.number false → IsContent g.roster bytes h.payload.content
    of_old n =
        let y = n.1 in
        let is : h.payload ≡ y = same_Some h.payload y (sym h.there ∙ ap (λ (v : PayloadsView). slice_get v.items h.number.number) n.0 ∙ n.2) in
        subst (λ (z : PayloadView). IsContent g.roster bytes z.content) (sym is)
        (subst (λ (b : List ℕ). IsContent g.roster b y.content) n.3 (fits.content y (one_at old.payloads.items h.number.number y n.2)))

-- certificates of the same bytes have the same body
one_body : (roster : RosterView) (bytes : List ℕ) (c d : CertificateView) → IsCertificateOf roster bytes c → IsCertificateOf roster bytes d → c.body ≡ d.body
one_body roster bytes c d is other =
    body_of c.body d.body _ _ (payload_once (payloads.Certificate c.body is.certificate.signatures) (payloads.Certificate d.body other.certificate.signatures)
    is.certificate.signed.fits other.certificate.signed.fits (sym is.certificate.spelled ∙ is.spelled ∙ sym other.spelled ∙ other.certificate.spelled))
  where
    body_of : (a b : Body) (s t : List (List ℕ)) → payloads.Certificate a s ≡ payloads.Certificate b t → a ≡ b
    body_of a b s t e = cc

-- a body is given to the chain twice, as once
given_twice : (old mid new : ChainView) (b : Body) → Follows old b mid → Follows mid b new → Follows old b new
given_twice old mid new b (follows can is) (follows again same) =
    absurd (again.new (b, subst (λ (ch : ChainView). Contains ch.held b) (sym is) (held_comes b old.held), refl))
given_twice old mid new b (follows can is) (stays cant same) = follows can (same ∙ is)
given_twice old mid new b (stays cant is) (follows again same) = absurd (cant (subst (λ (ch : ChainView). CanFollow ch b) is again))
given_twice old mid new b (stays cant is) (stays again same) = stays cant (same ∙ is)

followed_twice : (roster : RosterView) (bytes : List ℕ) (e : CertificateView) (content : Content) (old mid new : ChainView) → IsCertificateOf roster bytes e
    → IsContent roster bytes content → Follows old e.body mid → FollowsIn mid content new → FollowsIn old content new
followed_twice roster bytes e (contents.Opened (opened.Certificate c)) old mid new is h first again =
    let same = one_body roster bytes e c is (certificate_of_content roster bytes c h) in
    given_twice old mid new c.body (subst (λ (b : Body). Follows old b mid) same first) again
followed_twice roster bytes e (contents.Opened (opened.Submission cipher said)) old mid new is h first again =
    absurd (other_content roster bytes (contents.Opened (opened.Submission cipher said)) tt h e is)
followed_twice roster bytes e (contents.Opened (opened.Plain said)) old mid new is h first again = absurd (other_content roster bytes (contents.Opened (opened.Plain said)) tt h e is)
followed_twice roster bytes e (contents.Opened (opened.Challenge x)) old mid new is h first again = absurd (other_content roster bytes (contents.Opened (opened.Challenge x)) tt h e is)
followed_twice roster bytes e contents.Form old mid new is h first again = absurd (other_content roster bytes contents.Form tt h e is)
followed_twice roster bytes e contents.Stranger old mid new is h first again = absurd (other_content roster bytes contents.Stranger tt h e is)
followed_twice roster bytes e contents.Signature old mid new is h first again = absurd (other_content roster bytes contents.Signature tt h e is)

-- ---- the certificate

module _ (g : GroupView) (j : ServerId) (last : Round) (e : CertificateView) (m : Member) (ms : List Member) (bytes : List ℕ) (log : Log) (old mid new : PartsView)
    (first rest : List Outcome) (fits : FitsLog g log old) (opens : old.payloads.roster ≡ g.roster) (certificate : IsCertificate e) (under : IsCertificateUnder g.roster e)
    (same_bytes : bytes ≡ e.bytes) (tells : Then (Tells (outcomes.Certified j e.body.r)) (TellsCertified e) old mid first)
    (puts : Puts mid (own (members.Server j)) (m ∷ ms) bytes new rest) where
  abbrev line : Outcome
  line = outcomes.Certified j e.body.r

  abbrev chain : ChainView
  chain = tells.goes_on.chain

  -- the parts that were, with the round told
  abbrev IsMid : PartsView → Type 0
  IsMid parts = FitsLog g log (record parts { chain = old.chain }) × SameMembers old parts × (parts.chain ≡ chain)

  begun : IsMid (record tells.between { chain = chain })
  begun = subst (λ (z : PartsView). IsMid (record z { chain = chain })) (sym tells.begins.0) (
    record { payloads = fits.payloads; flight = fits.flight; chain = fits.chain; heard = fits.heard },
    record { roster = refl; opens = refl; group = refl; clients = refl; servers = refl; left = refl },
    refl,
  )

  is_mid : IsMid mid
  is_mid = told_keeps IsMid (record tells.between { chain = chain }) e.body mid tells.lines_rest tells.goes_on.tells begun (
    record { payloads = begun.0.payloads; flight = begun.0.flight; chain = begun.0.chain; heard = begun.0.heard },
    record { roster = begun.1.roster; opens = begun.1.opens; group = begun.1.group; clients = begun.1.clients; servers = begun.1.servers; left = begun.1.left },
    begun.2,
  )

  abbrev before : PartsView
  before = record mid { chain = old.chain }

  opens_before : before.payloads.roster ≡ g.roster
  opens_before = is_mid.1.opens ∙ opens

  is_certificate : IsCertificateOf g.roster bytes e
  is_certificate = record { certificate = certificate; under = under; spelled = sym same_bytes }

  fits_before : FitsLog g log before
  fits_before = is_mid.0

  -- the post, as if the chain had not been given the certificate before
  as_put : Puts before (own (members.Server j)) (m ∷ ms) bytes new rest
  as_put = record {
    number = puts.number;
    numbered = puts.numbered;
    payload = puts.payload;
    there = puts.there;
    spelled = puts.spelled;
    sent = puts.sent;
    sends = puts.sends;
    told = puts.told;
    follows = followed_twice g.roster bytes e puts.payload.content old.chain mid.chain new.chain is_certificate
        (content_of_put g log mid new (own (members.Server j)) (m ∷ ms) bytes rest fits_before.payloads opens_before puts)
        (subst (Follows old.chain e.body) (sym is_mid.2) (subst (λ (z : PartsView). Follows z.chain e.body chain) tells.begins.0 tells.goes_on.given)) puts.follows;
    heard = puts.heard;
    accused = puts.accused;
    audits = puts.audits;
    members = record {
      roster = puts.members.roster;
      group = puts.members.group;
      clients = puts.members.clients;
      servers = puts.members.servers;
      left = puts.members.left;
      told = puts.members.told;
      delivered = puts.members.delivered;
    };
  }

  so : PutsSo g true (members.Server j) (m ∷ ms) bytes log new rest
  so = puts_so g log before new (own (members.Server j)) (m ∷ ms) bytes rest fits_before opens_before tt as_put

  first_is : first ≡ line ∷ tells.lines_rest
  first_is = tells.told ∙ ap (λ (os : List Outcome). os ++ tells.lines_rest) tells.begins.1

  plain : (o : Outcome) → Contains tells.lines_rest o → IsPlain o
  plain = told_plain (record tells.between { chain = chain }) e.body mid tells.lines_rest tells.goes_on.tells

  among : (o : Outcome) → Contains first o → (line ≡ o) ⊎ IsPlain o
  among o h = elim (first_or_later line tells.lines_rest o (subst (λ (os : List Outcome). Contains os o) first_is h)) [ inl is ↦ inl is | inr behind ↦ inr (plain o behind) ]

  unput : (with_outcomes true (members.Server j) log first ≡ log) × AreNumbered true (members.Server j) log first
  unput = unput_lines true (members.Server j) log first (λ o h. elim (among o h) [ inl is ↦ ap is_of_put (sym is) | inr p ↦ p.unput ])

  first_actor : actors_after (members.Server j) first ≡ members.Server j
  first_actor =
      ap (actors_after (members.Server j)) first_is ∙ certified_first j e.body.r tells.lines_rest
      ∙ quiet_stay (members.Server j) tells.lines_rest (λ o h. (plain o h).quiet)

  abbrev end : Log
  end = with_outcomes true (members.Server j) log rest

  end_is : with_outcomes true (members.Server j) log (first ++ rest) ≡ end
  end_is =
      outcomes_after true (members.Server j) log first rest ∙ ap (λ (a : Member). with_outcomes true a (with_outcomes true (members.Server j) log first) rest) first_actor
      ∙ ap (λ (l : Log). with_outcomes true (members.Server j) l rest) unput.0

  abbrev did : List Act
  did = acts.Certified e ∷ acts.Post (m ∷ ms) bytes ∷ []

  no_post : (to : List Member) (b : List ℕ) → acts.Certified e ≡ acts.Post to b → ⊥
  no_post to b x = absurd cc

  post_same : (to : List Member) (b : List ℕ) → acts.Post (m ∷ ms) bytes ≡ acts.Post to b → ((m ∷ ms) ≡ to) × (bytes ≡ b)
  post_same to b x = (cc, cc)

  the_post : (to : List Member) (b : List ℕ) → Contains did (acts.Post to b) → ((m ∷ ms) ≡ to) × (bytes ≡ b)
  the_post to b h =
      elim (first_or_later (acts.Certified e) (acts.Post (m ∷ ms) bytes ∷ []) (acts.Post to b) h) [
        | inl x ↦ absurd (no_post to b x)
        | inr behind ↦ post_same to b (only (acts.Post (m ∷ ms) bytes) (acts.Post to b) behind)
      ]

  no_line : (a : Act) (o : Outcome) → acts.Post (m ∷ ms) bytes ≡ a → line_for j last a ≡ Some o → ⊥
  no_line a o is h = let x : line_for j last (acts.Post (m ∷ ms) bytes) ≡ Some o = ap (line_for j last) is ∙ h in absurd cc

  pub certified_so : ActsSo g j last (acts.Certified e ∷ acts.Post (m ∷ ms) bytes ∷ []) log old new (first ++ rest)
  certified_so =
      let kept = puts_keep_members mid new (own (members.Server j)) (m ∷ ms) bytes rest puts in
      record {
        numbered = numbered_after true (members.Server j) log first rest unput.1
            (subst (λ (a : Member). AreNumbered true a (with_outcomes true (members.Server j) log first) rest) (sym first_actor)
            (subst (λ (l : Log). AreNumbered true (members.Server j) l rest) (sym unput.0) so.numbered));
        fits = subst (λ (l : Log). FitsLog g l new) (sym end_is) so.fits;
        same = record {
          roster = kept.roster ∙ is_mid.1.roster;
          opens = kept.opens ∙ is_mid.1.opens;
          group = kept.group ∙ is_mid.1.group;
          clients = kept.clients ∙ is_mid.1.clients;
          servers = kept.servers ∙ is_mid.1.servers;
          left = kept.left ∙ is_mid.1.left;
        };
        more = so.more;
        puts = ap (λ (l : Log). l.puts) end_is ∙ so.puts;
        each = λ p h. (m ∷ ms, bytes, later (acts.Certified e) (acts.Post (m ∷ ms) bytes ∷ []) (acts.Post (m ∷ ms) bytes) (here (acts.Post (m ∷ ms) bytes) []), so.each p h);
        put = λ to b h. let is = the_post to b h in (so.put.0, subst (λ (l : Log). Contains l.puts so.put.0) (sym end_is) so.put.1, so.put.2 ∙ is.1);
        fates = λ to b x h there.
            let is = the_post to b h in
            subst (λ (l : Log). IsSentOrLost l (message_from true (members.Server j) b x)) (sym end_is)
            (subst (λ (z : List ℕ). IsSentOrLost end (message_from true (members.Server j) z x)) is.1 (so.fates x (subst (λ (z : List Member). Contains z x) (sym is.0) there)));
        delivered = ap (λ (l : Log). l.delivered) end_is ∙ so.delivered;
        sent = λ id lt. let f = so.sent id lt in (subst (λ (l : Log). id < length l.sent) (sym end_is) f.0, ap (λ (l : Log). message_of l id) end_is ∙ f.1);
        flies = λ id h. subst (λ (l : Log). Contains l.flight id) (sym end_is) (so.flies id h);
        lost = λ x h. subst (λ (l : Log). Contains l.lost x) (sym end_is) (so.lost x h);
        line = λ o h. elim (Contains-append_cases first rest o h) [
          | inl f ↦ elim (among o f) [
            | inl is ↦ inr (inl (acts.Certified e, here (acts.Certified e) (acts.Post (m ∷ ms) bytes ∷ []), ap Some is))
            | inr p ↦ inr (inr p)
          ]
          | inr r ↦ inl (puts_lines mid new (own (members.Server j)) (m ∷ ms) bytes rest puts o r)
        ];
        told = λ a o h x. elim (first_or_later (acts.Certified e) (acts.Post (m ∷ ms) bytes ∷ []) a h) [
          | inl is ↦ Contains-append_left first rest o (subst (Contains first) (same_Some line o (ap (line_for j last) is ∙ x))
              (subst (λ (os : List Outcome). Contains os line) (sym first_is) (here line tells.lines_rest)))
          | inr behind ↦ absurd (no_line a o (only (acts.Post (m ∷ ms) bytes) a behind) x)
        ];
        actor = actors_both (members.Server j) first rest ∙ ap (λ (a : Member). actors_after a rest) first_actor
            ∙ puts_stay (members.Server j) rest (puts_lines mid new (own (members.Server j)) (m ∷ ms) bytes rest puts);
      }
