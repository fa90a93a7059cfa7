-- What a server keeps true of its openings stays true.
use Rattle.std.proofs.Common.{◌≡◌, ℕ, ◌<◌, false, List, [], ◌∷◌, ◌++◌, length, refl, sym, ap, ◌∙◌, subst, inl, inr}
use Rattle.std.specs.Prelude.{Contains, All, Some}
use Rattle.std.proofs.lemmas.List.Elements.{All-push, Contains-append_left, Contains-push_cases}
use Rattle.dn_wire.specs.declared.ids.Round.{Round}
use Rattle.dn_record_types.specs.declared.body.Body.{Body}
use Rattle.dn_record_types.specs.declared.statement.Statement.{Statement}
use Rattle.dn_seal.specs.Said.{SaidView, IsUnder}
use Rattle.dn_trace.specs.Trial.{Says}
use Rattle.dn_server.specs.declared.act.Act.{Act}
use Rattle.dn_server.specs.declared.answer.Answer.{Answer}
use Rattle.dn_server.specs.declared.past.Past.{Past}
use Rattle.dn_server.specs.declared.places.Place.{Place}
use Rattle.dn_seal.specs.Dealt.{server}
use Rattle.dn_cert.specs.Chain.{bodies}
use Rattle.dn_server.specs.Justified.{Seat}
use Rattle.dn_server.specs.Server.{ServerView, itself, past_of}
use Rattle.dn_openings.specs.Evidence.{with_evidence}
use Rattle.dn_openings.specs.Challenging.{LooksAt, LooksAtAll, has_looked, waits, finds_fault, finds_nobody, challenges, none, more}
use Rattle.dn_openings.specs.Accusing.{HasSigned, SignsAndKeeps, Shows, first_of_round, again, Opens, not_signed, not_valid, is_opened, is_spent, opens, shown_of, pads_at, with_opened}
use Rattle.dn_openings.specs.Hearing.{not_held, repeats, keeps, repeats_it, keeps_it, HearsEvidence, of_no_use, opening, accusation, answers}
use Rattle.dn_openings.specs.Open.{CanOpen, IsOpenPlace}
use Rattle.dn_openings.proofs.OpenLemmas.{signed_so, one_within}

module _ (v : ServerView) (can : CanOpen v) (signed : List Statement) (evidence : List SaidView) (challenged : List Place)
    (kept : (x : SaidView) → Contains v.evidence x → Contains evidence x) (under : All (IsUnder v.seat.roster) evidence) where
  -- with more signed, more kept, and other places looked at
  abbrev pub later : ServerView
  later = record v { signed = signed; evidence = evidence; challenged = challenged }

  signed_later : (r : Round) (b : Body) (past : Past) → HasSigned v r b past → HasSigned later r b past
  signed_later r b past h = record { held = h.held; round = h.round; kept = h.kept; of_body = h.of_body }

  place_later : (place : Place) → IsOpenPlace v place → IsOpenPlace later place
  place_later place p = record {
    body = p.body;
    past = p.past;
    signed = signed_later place.r p.body p.past p.signed;
    full = p.full;
    within = p.within;
    shown = (p.shown.0, kept p.shown.0 p.shown.1, p.shown.2, p.shown.3);
  }

  pub can_later : CanOpen later
  can_later = record {
    member = can.member;
    in_group = can.in_group;
    seeds = can.seeds;
    under = under;
    sizes = can.sizes;
    places = λ place there. place_later place (can.places place there);
  }

same_contains : (v : ServerView) (x : SaidView) → Contains v.evidence x → Contains v.evidence x
same_contains v x c = c

pub can_look_at : (v : ServerView) (place : Place) (did : List Act) (after : ServerView) → LooksAt v place did after → CanOpen v → CanOpen after
can_look_at v place did after (has_looked old nothing same) can = subst CanOpen (sym same) can
can_look_at v place did after (waits new some nothing same) can = subst CanOpen (sym same) can
can_look_at v place did after (finds_fault trial new all is fault nothing e) can =
    subst CanOpen (sym e) (can_later v can v.signed v.evidence (v.challenged ++ place ∷ []) (same_contains v) can.under)
can_look_at v place did after (finds_nobody trial new all is named nobody nothing e) can =
    subst CanOpen (sym e) (can_later v can v.signed v.evidence (v.challenged ++ place ∷ []) (same_contains v) can.under)
can_look_at v place did after (challenges trial first others envelopes new all is named called sent did_is e) can =
    subst CanOpen (sym e) (can_later v can v.signed v.evidence (v.challenged ++ place ∷ []) (same_contains v) can.under)

pub can_look_at_all : (v : ServerView) (places : List Place) (did : List Act) (after : ServerView) → LooksAtAll v places did after → CanOpen v → CanOpen after
can_look_at_all v places did after (none nowhere nothing same) can = subst CanOpen (sym same) can
can_look_at_all v places did after (more place others first rest between is all look did_is) can =
    can_look_at between place rest after look (can_look_at_all v others first between all can)

pub can_keep : (v : ServerView) (said : SaidView) → IsUnder v.seat.roster said → CanOpen v → CanOpen (with_evidence v said)
can_keep v said under can =
    can_later v can v.signed (v.evidence ++ said ∷ []) v.challenged (λ x c. Contains-append_left v.evidence (said ∷ []) x c)
    (All-push (IsUnder v.seat.roster) v.evidence said can.under under)

pub can_sign_more : (v : ServerView) (s : Statement) (after : ServerView) → SignsAndKeeps v s after → CanOpen v → CanOpen after
can_sign_more v s after signs can =
    let so = signed_so v s after signs in
    subst CanOpen (sym so.is) (can_later v can (v.signed ++ s ∷ []) so.evidence v.challenged so.kept (so.under can.member can.under))

pub can_show_more : (v : ServerView) (past : Past) (did : List Act) (after : ServerView) → Shows v past did after → CanOpen v → CanOpen after
can_show_more v past did after (first_of_round lacks signs did_is) can = can_sign_more v (shown_of past) after signs can
can_show_more v past did after (again said has there by is did_is same) can = subst CanOpen (sym same) can

-- what the server shows is kept
shown_kept : (v : ServerView) (past : Past) (did : List Act) (after : ServerView) → Shows v past did after → Says after.evidence (itself v) (shown_of past)
shown_kept v past did after (first_of_round lacks signs did_is) =
    let so = signed_so v (shown_of past) after signs in
    subst (λ (w : ServerView). Says w.evidence (itself v) (shown_of past)) (sym so.is) so.said
shown_kept v past did after (again said has there by is did_is same) =
    subst (λ (w : ServerView). Says w.evidence (itself v) (shown_of past)) (sym same) (said, there, by, is)

-- what the relations leave
record Leaves (v after : ServerView) : Type 0 where
  pub seat : after.seat ≡ v.seat
  pub chain : after.chain ≡ v.chain
  pub pasts : after.pasts ≡ v.pasts

signs_leave : (v : ServerView) (s : Statement) (after : ServerView) → SignsAndKeeps v s after → Leaves v after
signs_leave v s after signs =
    let so = signed_so v s after signs in
    record { seat = ap (λ (w : ServerView). w.seat) so.is; chain = ap (λ (w : ServerView). w.chain) so.is; pasts = ap (λ (w : ServerView). w.pasts) so.is }

shows_leave : (v : ServerView) (past : Past) (did : List Act) (after : ServerView) → Shows v past did after → Leaves v after
shows_leave v past did after (first_of_round lacks signs did_is) = signs_leave v (shown_of past) after signs
shows_leave v past did after (again said has there by is did_is same) =
    record { seat = ap (λ (w : ServerView). w.seat) same; chain = ap (λ (w : ServerView). w.chain) same; pasts = ap (λ (w : ServerView). w.pasts) same }

-- one place more is open
can_open_more : (v : ServerView) (place : Place) → CanOpen v → IsOpenPlace v place → CanOpen (with_opened v place)
can_open_more v place can is = record {
  member = can.member;
  in_group = can.in_group;
  seeds = can.seeds;
  under = can.under;
  sizes = can.sizes;
  places = λ q there. elim (Contains-push_cases v.opened place q there) [
    | inl old ↦ moved q (can.places q old)
    | inr new ↦ moved q (subst (IsOpenPlace v) new is)
  ];
}
  where
    moved : (q : Place) → IsOpenPlace v q → IsOpenPlace (with_opened v place) q
    moved q p = record {
      body = p.body;
      past = p.past;
      full = p.full;
      within = p.within;
      shown = p.shown;
      signed = record { held = p.signed.held; round = p.signed.round; kept = p.signed.kept; of_body = p.signed.of_body };
    }

pub can_opens : (v : ServerView) (b : Body) (past : Past) (k : ℕ) (did : List Act) (after : ServerView) (r : Round) → HasSigned v r b past → b.thin ≡ false
    → k < length b.out → Opens v b past k did after → CanOpen v → CanOpen after
can_opens v b past k did after r signed full within o can =
    let place : Place = record { r = b.r; k = k } in
    let left = signs_leave v (pads_at v.seat b k) o.padded o.signs in
    let then = shows_leave o.padded past o.shown_did o.shown o.shows in
    let can_padded = can_sign_more v (pads_at v.seat b k) o.padded o.signs can in
    let can_shown = can_show_more o.padded past o.shown_did o.shown o.shows can_padded in
    let chain = then.chain ∙ left.chain in
    let pasts = then.pasts ∙ left.pasts in
    let kept : past_of o.shown.pasts b.r.0 ≡ Some past =
    ap (λ l. past_of l b.r.0) pasts ∙ ap (λ (q : Round). past_of v.pasts q.0) signed.round ∙ signed.kept in
    let here : HasSigned o.shown b.r b past =
    record { held = subst (λ c. Contains (bodies c) b) (sym chain) signed.held; round = refl; kept = kept; of_body = signed.of_body } in
    let says : Says o.shown.evidence (itself o.shown) (shown_of past) =
    subst (λ (q : Seat). Says o.shown.evidence (server q.number) (shown_of past)) (sym then.seat) (shown_kept o.padded past o.shown_did o.shown o.shows) in
    let is : IsOpenPlace o.shown place = record { body = b; past = past; signed = here; full = full; within = within; shown = says } in
    can_look_at (with_opened o.shown place) place o.looked_did after o.looks (can_open_more o.shown place can_shown is)

pub can_hear : (v : ServerView) (said : SaidView) (answer : Answer) (after : ServerView) → HearsEvidence v said answer after → IsUnder v.seat.roster said
    → CanOpen v → CanOpen after
can_hear v said answer after (of_no_use useless e same) under can = subst CanOpen (sym same) can
can_hear v said answer after (opening r by is (not_held lacks e same)) under can = subst CanOpen (sym same) can
can_hear v said answer after (opening r by is (repeats holds says e same)) under can = subst CanOpen (sym same) can
can_hear v said answer after (opening r by is (keeps places did holds new touched looks e)) under can =
    can_look_at_all (with_evidence v said) places did after looks (can_keep v said under can)
can_hear v said answer after (accusation r slot k is (not_signed lacks e same)) under can = subst CanOpen (sym same) can
can_hear v said answer after (accusation r slot k is (not_valid b past layout why accused invalid e same)) under can = subst CanOpen (sym same) can
can_hear v said answer after (accusation r slot k is (is_opened b past layout valid accused holds old e same)) under can = subst CanOpen (sym same) can
can_hear v said answer after (accusation r slot k is (is_spent b past layout valid accused holds new few e same)) under can = subst CanOpen (sym same) can
can_hear v said answer after (accusation r slot k is (opens b past layout valid did accused holds new enough o e)) under can =
    can_opens v b past valid.k did after r accused.body holds.full (one_within b.out valid.k holds.one) o can
can_hear v said answer after (answers by is (repeats_it says e same)) under can = subst CanOpen (sym same) can
can_hear v said answer after (answers by is (keeps_it new e same)) under can = subst CanOpen (sym same) (can_keep v said under can)
