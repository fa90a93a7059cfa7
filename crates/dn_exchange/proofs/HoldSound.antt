-- A server that takes a certificate stays sound.
use Rattle.std.proofs.Common.{◌≡◌, ◌≢◌, ℕ, List, length, refl, sym, ap, subst, ◌∙◌, inl, inr}
use Rattle.std.specs.Prelude.{All}
use Rattle.std.proofs.lemmas.List.Elements.{All-contains}
use Rattle.dn_record_types.specs.declared.body.Body.{Body}
use Rattle.dn_roster.specs.Roster.{RosterView}
use Rattle.dn_cert.specs.Certificate.{CertificateView, IsCertificate, IsCertificateUnder, IsOfRoster, IsInGroup}
use Rattle.dn_cert.specs.Chain.{ChainView, bodies, Holds, IsChain, IsLayoutAfter, CanFollow, HasCertificate, with_held, count_at}
use Rattle.dn_cert.specs.Floor.{is_due_thin}
use Rattle.dn_cert.proofs.ChainLemmas.{round_is}
use Rattle.dn_cert.proofs.GrowthLemmas.{held_only, layouts_stay_on, counts_stay_on}
use Rattle.dn_cert.proofs.Orders.{All-from_contains}
use Rattle.dn_server.specs.declared.answer.Answer.{Answer}
use Rattle.dn_server.specs.declared.run.Stage.{Stage}
use Rattle.dn_server.specs.declared.run.Stage.TheVariants as stages
use Rattle.dn_server.specs.Server.{ServerView}
use Rattle.dn_exchange.specs.Ending.{HoldsOn, IsOfRunning, with_certificate}
use Rattle.dn_exchange.specs.Ending.HoldsOn.{is_known, has_no_prev, is_off_floor, is_of_other_length, is_held, ends_run}
use Rattle.dn_exchange.specs.Invariant.{IsSound, IsRunning, IsAtStage, HasCommitted, HasSigned, IsDataList, Standing, standing_of}
use Rattle.dn_exchange.proofs.EndSound.{ended_on}

-- a certificate of the group has one of its bodies
pub group_body : (roster : RosterView) (c : CertificateView) → IsCertificate c → IsCertificateUnder roster c → IsOfRoster roster c.body
group_body roster c is under =
    subst (λ n. IsInGroup n (length roster.clients) (length roster.servers) c.body) under.version
    (subst (λ n. IsInGroup c.body.version n (length roster.servers) c.body) under.clients
    (subst (λ (l : List (List ℕ)). IsInGroup c.body.version c.clients (length l) c.body) under.keys is.signed.within))

-- a chain of the group's bodies stays one
pub group_more : (roster : RosterView) (b : Body) (held : List Body) → All (IsOfRoster roster) held → IsOfRoster roster b → All (IsOfRoster roster) (with_held b held)
group_more roster b held all is =
    All-from_contains (IsOfRoster roster) (with_held b held)
    (λ x there. elim (held_only b held x there) [ inl same ↦ subst (IsOfRoster roster) same is | inr old ↦ All-contains (IsOfRoster roster) held x all old ])

-- the chain with one body more
abbrev pub longer : ChainView → Body → ChainView
longer chain b = record chain { held = with_held b chain.held }

module _ (chain : ChainView) (b : Body) (is : IsChain chain) (cert : HasCertificate b) (can : CanFollow chain b) where
  pub unheld_more : (r : ℕ) → b.r.0 ≢ r → ¬ Holds chain r → ¬ Holds (longer chain b) r
  unheld_more r other not (x, there, at) =
      elim (held_only b (bodies chain) x there) [ inl same ↦ other (ap (λ (y : Body). y.r.0) same ∙ at) | inr old ↦ not (x, old, at) ]

  count_same : (r : ℕ) (l : List ℕ) → IsLayoutAfter chain r l → count_at (longer chain b) r ≡ count_at chain r
  count_same r l after = counts_stay_on chain b r is cert can (l, after)

  -- a body that could follow can still, where it is of another round
  pub follows_more : (x : Body) → b.r.0 ≢ x.r.0 → CanFollow chain x → CanFollow (longer chain b) x
  follows_more x other f = record {
    new = unheld_more x.r.0 other f.new;
    layout = f.layout;
    after = layouts_stay_on chain b x.prev.0 f.layout f.after;
    floor = f.floor ∙ ap (is_due_thin x.version (length x.listed)) (sym (count_same x.prev.0 f.layout f.after));
    long = f.long;
  }

  -- what a round that runs rests on, on the longer chain
  module _ (x : Standing) (on : x.chain ≡ chain) where
    abbrev pub more : Standing
    more = record x { chain = longer chain b }

    data_more : (listed : _) (l : List ℕ) → IsLayoutAfter chain x.prev.0 l → IsDataList x listed → IsDataList more listed
    data_more listed l after d = record {
      inventories = d.inventories;
      kept = d.kept;
      trim = d.trim;
      floor = ap (is_due_thin x.seat.roster.version (length listed)) (count_same x.prev.0 l after ∙ ap (λ (c : ChainView). count_at c x.prev.0) (sym on)) ∙ d.floor;
    }

    commit_more : (l : List ℕ) → IsLayoutAfter chain x.prev.0 l → HasCommitted x → HasCommitted more
    commit_more l after h = record { sum = h.sum; has = h.has; long = h.long; listing = data_more h.sum.listed l after h.listing }

    signed_more : b.r.0 ≢ x.r.0 → HasSigned x → HasSigned more
    signed_more other h = record {
      body = h.body;
      kept = h.kept;
      unopposed = h.unopposed;
      group = h.group;
      round = h.round;
      follows = follows_more h.body (subst (λ (r : _). b.r.0 ≢ r) (sym (ap (λ (q : _). q.0) h.round)) other) (subst (λ (c : ChainView). CanFollow c h.body) on h.follows);
    }

    pub stage_more : (s : Stage) (l : List ℕ) → IsLayoutAfter chain x.prev.0 l → b.r.0 ≢ x.r.0 → IsAtStage s x → IsAtStage s more
    stage_more stages.Collecting l after other h = tt
    stage_more stages.Listed l after other h = h
    stage_more stages.Committed l after other h = (h.0, commit_more l after h.1)
    stage_more stages.Revealed l after other h = (h.0, commit_more l after h.1, h.2)
    stage_more stages.Signed l after other h = (h.0, signed_more other h.1)

-- a round that runs goes on, on the longer chain
pub runs_more : (v : ServerView) (b : Body) → IsChain v.chain → HasCertificate b → CanFollow v.chain b → b.r.0 ≢ v.run.r.0 → IsRunning (standing_of v)
    → IsRunning (record (standing_of v) { chain = longer v.chain b })
runs_more v b is cert can other h = record {
  course = record {
    before = h.course.before;
    small = h.course.small;
    layout = h.course.layout;
    after = layouts_stay_on v.chain b v.run.prev.0 h.course.layout h.course.after;
    bits_are = h.course.bits_are;
    few = h.course.few;
    unheld = unheld_more v.chain b is cert can v.run.r.0 other h.course.unheld;
  };
  kept = h.kept;
  inventories = h.inventories;
  strings = h.strings;
  stage = stage_more v.chain b is cert can (standing_of v) refl v.run.stage h.course.layout h.course.after other h.stage;
}

pub held_sound : (v : ServerView) (c : CertificateView) → IsSound v → IsChain v.chain → IsCertificate c → IsCertificateUnder v.seat.roster c → CanFollow v.chain c.body
    → ¬ IsOfRunning v c → IsSound (with_certificate v c)
held_sound v c s chain is under can isnt = record {
  seated = record { roster = s.seated.roster; number = s.seated.number; seeds = s.seated.seeds };
  member = s.member;
  is_key = s.is_key;
  workers = s.workers;
  slots = s.slots;
  in_group = group_more v.seat.roster c.body v.chain.held s.in_group (group_body v.seat.roster c is under);
  window = s.window;
  claims = s.claims;
  are_claims = s.are_claims;
  claimed = s.claimed;
  is_open = s.is_open;
  round = s.round;
  aside = s.aside;
  some_aside = s.some_aside;
  running = λ e. runs_more v c.body chain (c, is, refl) can (λ same. isnt (e, round_is c.body.r v.run.r same)) (s.running e);
}

pub holds_sound : (v : ServerView) (c : CertificateView) (a : Answer) (w : ServerView) → IsSound v → IsChain v.chain → IsCertificate c → IsCertificateUnder v.seat.roster c
    → HoldsOn v c a w → IsSound w
holds_sound v c a w s chain is under (is_known r u e f) = subst IsSound (sym f) s
holds_sound v c a w s chain is under (has_no_prev p u e f) = subst IsSound (sym f) s
holds_sound v c a w s chain is under (is_off_floor n m u e f) = subst IsSound (sym f) s
holds_sound v c a w s chain is under (is_of_other_length n m u e f) = subst IsSound (sym f) s
holds_sound v c a w s chain is under (is_held can isnt e f) = subst IsSound (sym f) (held_sound v c s chain is under can isnt)
holds_sound v c a w s chain is under (ends_run can so e f) =
    subst IsSound (sym f) (ended_on v s (with_held c.body v.chain.held) (group_more v.seat.roster c.body v.chain.held s.in_group (group_body v.seat.roster c is under)))
