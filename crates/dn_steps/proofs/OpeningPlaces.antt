-- A server opens places, and looks for clients to challenge: what it signs and posts.
use Rattle.std.proofs.Common.{◌≡◌, ◌≢◌, ℕ, ◌<◌, ◌≤◌, List, [], ◌∷◌, ◌++◌, length, refl, sym, ap, subst, ◌∙◌, inl, inr, Bool, true, false, arith}
use Rattle.std.specs.Prelude.{Contains, ◌⊎◌, ◌==◌, ◌-◌, ◌+◌, Some, None, if◌then◌else◌}
use Rattle.std.specs.List.{list_any}
use Rattle.std.proofs.lemmas.Bool.{cases_Bool, eqb-true}
use Rattle.std.proofs.lemmas.List.{length-append}
use Rattle.std.proofs.lemmas.Option.{same_Some}
use Rattle.std.proofs.lemmas.List.Elements.{Contains-append_left, Contains-append_right, Contains-append_cases}
use Rattle.dn_wire.specs.declared.ids.ServerId.{ServerId}
use Rattle.dn_wire.specs.declared.ids.Round.{Round}
use Rattle.dn_wire.specs.declared.ids.Member.{Member}
use Rattle.dn_wire.specs.declared.ids.SignerId.{SignerId}
use Rattle.dn_wire.specs.declared.ids.SignerId.TheVariants.{Server}
use Rattle.dn_lms.specs.Key.{Key, IsKey, leaf_count}
use Rattle.dn_lms.specs.Signature.{public_key}
use Rattle.dn_record_types.specs.Records.{payload_bytes}
use Rattle.dn_record_types.specs.declared.body.Body.{Body}
use Rattle.dn_record_types.specs.declared.payload.Payload.TheVariants as payloads
use Rattle.dn_record_types.specs.declared.statement.Statement.{Statement}
use Rattle.dn_record_types.specs.declared.statement.Statement.TheVariants as kinds
use Rattle.dn_roster.specs.Roster.{RosterView, key_of}
use Rattle.dn_seal.specs.Dealt.{server}
use Rattle.dn_seal.specs.Said.{SaidView, Unseals}
use Rattle.dn_seal.specs.Signer.{CanSign, sealed_bytes}
use Rattle.dn_seal.proofs.SaidLemmas.{unsealed_once}
use Rattle.dn_cert.specs.Chain.{ChainView}
use Rattle.dn_cert.proofs.Orders.{here, later, nothing}
use Rattle.dn_trace.proofs.HeardLemmas.{found}
use Rattle.dn_server.specs.declared.act.Act.{Act}
use Rattle.dn_server.specs.declared.act.Act.TheVariants as acts
use Rattle.dn_server.specs.declared.past.Past.{Past}
use Rattle.dn_server.specs.declared.places.Place.{Place}
use Rattle.dn_server.specs.declared.run.Run.{Run}
use Rattle.dn_server.specs.Justified.{Seat}
use Rattle.dn_server.specs.Server.{ServerView, itself, left_of, others_of, past_of, post_next, sealed_next, said_next, with_signed}
use Rattle.dn_openings.specs.Evidence.{with_evidence}
use Rattle.dn_openings.specs.Accusing.{pads_at, shown_of, KeepsOnce, SignsAndKeeps, Shows, Opens, has_opened, leaves_due, with_opened, post_again}
use Rattle.dn_openings.specs.Accusing.KeepsOnce.{is_kept, is_new}
use Rattle.dn_openings.specs.Accusing.Shows.{first_of_round, again}
use Rattle.dn_openings.specs.Challenging.{LooksAt, LooksAtAll, with_looked}
use Rattle.dn_openings.specs.Challenging.LooksAt.{has_looked, waits, finds_fault, finds_nobody, challenges}
use Rattle.dn_openings.specs.Challenging.LooksAtAll.{none, more}
use Rattle.dn_headline.specs.Spoken.{Says, IsInFront}
use Rattle.dn_steps.specs.Openings.{KeepsOpenings}
use Rattle.dn_steps.proofs.Fronts.{front_of_plain}
use Rattle.dn_steps.proofs.Places.{only, no_more, both_ways}
use Rattle.dn_steps.proofs.OwnPuts.{plain_goes}
use Rattle.dn_steps.proofs.Carrying.{AreCarried, carried_too}
use Rattle.dn_steps.proofs.Carrying.AreCarried.{nothing_is, posts as carried_post}
use Rattle.dn_steps.proofs.Sealing.{IsSealedOf, says_so, front_so, unseals_so}

-- pad bits, or ciphertexts that are shown
abbrev pub IsOpening : Statement → Type 0
IsOpening (kinds.PadBits r k bits) = Unit {0}
IsOpening (kinds.Shown r sum ciphers) = Unit {0}
IsOpening _ = ⊥

abbrev pub IsPost : Act → Type 0
IsPost (acts.Post to bytes) = Unit {0}
IsPost _ = ⊥

-- nothing stands in front of a challenge
challenge_is : (r : Round) (k : ℕ) (envelopes : List (List ℕ)) (e : List ℕ) → payload_bytes (payloads.Challenge r k envelopes) ≡ payload_bytes (payloads.Plain e) → ⊥
unfolding payload_bytes
challenge_is r k envelopes e h = absurd cc

challenge_isnt : (r : Round) (k : ℕ) (envelopes : List (List ℕ)) (cipher : List Bool) (e : List ℕ)
    → payload_bytes (payloads.Challenge r k envelopes) ≡ payload_bytes (payloads.Submission cipher e) → ⊥
unfolding payload_bytes
challenge_isnt r k envelopes cipher e h = absurd cc

challenge_front : (roster : RosterView) (r : Round) (k : ℕ) (envelopes bytes : List (List ℕ)) (b : List ℕ) (who : SignerId) (t : Statement) → payload_bytes (payloads.Challenge r k envelopes) ≡ b
    → IsInFront roster b who t → ⊥
challenge_front roster r k envelopes bytes b who t is front =
    elim front [
      | inl says ↦ challenge_is r k envelopes says.envelope (is ∙ says.is.spelled)
      | inr submits ↦ challenge_isnt r k envelopes submits.0 submits.1.envelope (is ∙ submits.1.is.spelled)
    ]

module _ (roster : RosterView) (j : ServerId) (key : Key) (known : key_of roster (Server j) ≡ Some (public_key key)) (is_key : IsKey key) (done : List Statement)
    (can : (t : Statement) → Contains done t → CanSign (Server j) t) where
  -- the server is this one, with this key
  pub record IsIts (c : ServerView) : Type 0 where
    pub roster_is : c.seat.roster ≡ roster
    pub itself_is : itself c ≡ Server j
    pub key_is : c.key ≡ key

  -- What a server does that opens places: its round and its pasts stay; it signs openings, each of which it posts; and what stands in front of its
  -- posts it signed.
  pub record OpensBy (c : ServerView) (did : List Act) (d : ServerView) : Type 0 where
    pub seat : d.seat ≡ c.seat
    pub key_stays : d.key ≡ c.key
    pub chain : d.chain ≡ c.chain
    pub run : d.run ≡ c.run
    pub pasts : d.pasts ≡ c.pasts
    pub fresh : List Statement
    pub signed : d.signed ≡ c.signed ++ fresh
    pub of_kind : (t : Statement) → Contains fresh t → IsOpening t
    pub says : (t : Statement) → Contains fresh t → (to : List Member) × (bytes : List ℕ) × Contains did (acts.Post to bytes) × Says roster bytes (Server j) t
    pub fronts : (to : List Member) (bytes : List ℕ) → Contains did (acts.Post to bytes) → (who : SignerId) (t : Statement) → IsInFront roster bytes who t
        → (who ≡ Server j) × Contains done t
    pub all_posts : (a : Act) → Contains did a → IsPost a
    pub carried : AreCarried roster did

  its_after : (c d : ServerView) (did : List Act) → IsIts c → OpensBy c did d → IsIts d
  its_after c d did its by = record {
    roster_is = ap (λ (z : Seat). z.roster) by.seat ∙ its.roster_is;
    itself_is = ap (λ (z : Seat). server z.number) by.seat ∙ its.itself_is;
    key_is = by.key_stays ∙ its.key_is;
  }

  -- nothing is done, and nothing signed
  rests_so : (c d : ServerView) → d.seat ≡ c.seat → d.key ≡ c.key → d.chain ≡ c.chain → d.run ≡ c.run → d.pasts ≡ c.pasts → d.signed ≡ c.signed → OpensBy c [] d
  rests_so c d seat key_same chain run pasts signed = record {
    seat = seat;
    key_stays = key_same;
    chain = chain;
    run = run;
    pasts = pasts;
    fresh = [];
    signed = signed ∙ no_more c.signed;
    of_kind = λ t h. absurd (nothing t h);
    says = λ t h. absurd (nothing t h);
    fronts = λ to bytes h. absurd (nothing _ h);
    all_posts = λ a h. absurd (nothing a h);
    carried = nothing_is;
  }

  -- one thing after the other
  then_so : (c m d : ServerView) (did rest : List Act) → OpensBy c did m → OpensBy m rest d → OpensBy c (did ++ rest) d
  then_so c m d did rest one two = record {
    seat = two.seat ∙ one.seat;
    key_stays = two.key_stays ∙ one.key_stays;
    chain = two.chain ∙ one.chain;
    run = two.run ∙ one.run;
    pasts = two.pasts ∙ one.pasts;
    fresh = one.fresh ++ two.fresh;
    signed = two.signed ∙ ap (λ (ss : List Statement). ss ++ two.fresh) one.signed ∙ both_ways c.signed one.fresh two.fresh;
    of_kind = λ t h. elim (Contains-append_cases one.fresh two.fresh t h) [ inl a ↦ one.of_kind t a | inr b ↦ two.of_kind t b ];
    says = λ t h. elim (Contains-append_cases one.fresh two.fresh t h) [
      | inl a ↦ let p = one.says t a in (p.0, p.1, Contains-append_left did rest (acts.Post p.0 p.1) p.2, p.3)
      | inr b ↦ let p = two.says t b in (p.0, p.1, Contains-append_right did rest (acts.Post p.0 p.1) p.2, p.3)
    ];
    fronts = λ to bytes h. elim (Contains-append_cases did rest (acts.Post to bytes) h) [ inl a ↦ one.fronts to bytes a | inr b ↦ two.fronts to bytes b ];
    all_posts = λ a h. elim (Contains-append_cases did rest a h) [ inl x ↦ one.all_posts a x | inr y ↦ two.all_posts a y ];
    carried = carried_too roster did rest one.carried two.carried;
  }

  -- an opening is sealed and posted
  module _ (c : ServerView) (its : IsIts c) (to : List Member) (t : Statement) (leaf : length c.signed < leaf_count c.key) (opening : IsOpening t) (among : Contains done t) where
    sealed : IsSealedOf roster j key t (payload_bytes (payloads.Plain (sealed_next c t)))
    sealed = record {
      can = can t among;
      leaf = length c.signed;
      low = subst (λ (z : Key). length c.signed < leaf_count z) its.key_is leaf;
      spelled = λ i. payload_bytes (payloads.Plain (sealed_bytes (its.roster_is i) (its.itself_is i) (its.key_is i) (length c.signed) t));
    }

    post_same : (to_too : List Member) (bytes : List ℕ) → post_next c to t ≡ acts.Post to_too bytes → payload_bytes (payloads.Plain (sealed_next c t)) ≡ bytes
    post_same to_too bytes e = cc

    signs_so : OpensBy c (post_next c to t ∷ []) (with_signed c t)
    signs_so = record {
      seat = refl;
      key_stays = refl;
      chain = refl;
      run = refl;
      pasts = refl;
      fresh = t ∷ [];
      signed = refl;
      of_kind = λ u h. subst IsOpening (only t u h) opening;
      says = λ u h. (
        to,
        payload_bytes (payloads.Plain (sealed_next c t)),
        here (post_next c to t) [],
        subst (Says roster (payload_bytes (payloads.Plain (sealed_next c t))) (Server j)) (only t u h) (says_so roster j key known is_key t _ sealed),
      );
      fronts = λ to_too bytes h who u front.
          let is = front_so roster j key known is_key t (payload_bytes (payloads.Plain (sealed_next c t))) sealed who u
          (subst (λ (b : List ℕ). IsInFront roster b who u) (sym (post_same to_too bytes (only (post_next c to t) (acts.Post to_too bytes) h))) front) in
          (is.0, subst (Contains done) (sym is.1) among);
      all_posts = λ a h. subst IsPost (only (post_next c to t) a h) tt;
      carried = carried_post to (payload_bytes (payloads.Plain (sealed_next c t))) [] (plain_goes roster (sealed_next c t) to) nothing_is;
    }

    -- and kept
    next_unseals : Unseals roster (said_next c t).bytes (said_next c t).signer (said_next c t).statement
    unfolding sealed
    next_unseals =
        let one = unseals_so roster j key known is_key t (payload_bytes (payloads.Plain (sealed_next c t))) sealed in
        subst (λ (who : SignerId). Unseals roster (sealed_next c t) who t) (sym its.itself_is)
        (subst (λ (b : List ℕ). Unseals roster b (Server j) t) (λ i. sealed_bytes (sym its.roster_is i) (sym its.itself_is i) (sym its.key_is i) (length c.signed) t) one)

    keeps_so : (d : ServerView) → SignsAndKeeps c t d → OpensBy c (post_next c to t ∷ []) d
    keeps_so d (is_kept there same) = subst (OpensBy c (post_next c to t ∷ [])) (sym same) signs_so
    keeps_so d (is_new there same) =
        subst (OpensBy c (post_next c to t ∷ [])) (sym same)
        (then_so c (with_signed c t) (with_evidence (with_signed c t) (said_next c t)) (post_next c to t ∷ []) [] signs_so (rests_so (with_signed c t) _ refl refl refl refl refl refl))

    keeps_openings : (d : ServerView) → SignsAndKeeps c t d → KeepsOpenings roster c → KeepsOpenings roster d
    keeps_openings d (is_kept there same) h = subst (KeepsOpenings roster) (sym same) (record {
      evidence = h.evidence;
      opened = λ place at. let past = h.opened place at in (past.0, past.1, Contains-append_left c.signed (t ∷ []) (shown_of past.0) past.2);
    })
    keeps_openings d (is_new there same) h = subst (KeepsOpenings roster) (sym same) (record {
      evidence = λ said at. elim (Contains-append_cases c.evidence (said_next c t ∷ []) said at) [
        | inl old ↦ h.evidence said old
        | inr now ↦ subst (λ (z : SaidView). Unseals roster z.bytes z.signer z.statement) (only (said_next c t) said now) next_unseals
      ];
      opened = λ place at. let past = h.opened place at in (past.0, past.1, Contains-append_left c.signed (t ∷ []) (shown_of past.0) past.2);
    })

  -- what is posted again
  again_so : (c : ServerView) (said : SaidView) (t : Statement) → Unseals roster said.bytes (Server j) t → Contains done t → OpensBy c (post_again c said ∷ []) c
  again_so c said t unseals among = record {
    seat = refl;
    key_stays = refl;
    chain = refl;
    run = refl;
    pasts = refl;
    fresh = [];
    signed = no_more c.signed;
    of_kind = λ u h. absurd (nothing u h);
    says = λ u h. absurd (nothing u h);
    fronts = λ to bytes h who u front.
        let is = unsealed_once roster said.bytes who (Server j) u t
        (front_of_plain roster bytes who u said.bytes (sym (post_same to bytes (only (post_again c said) (acts.Post to bytes) h))) front) unseals in
        (is.0, subst (Contains done) (sym is.1) among);
    all_posts = λ a h. subst IsPost (only (post_again c said) a h) tt;
    carried = carried_post (others_of c.seat) (payload_bytes (payloads.Plain said.bytes)) [] (plain_goes roster said.bytes (others_of c.seat)) nothing_is;
  } where
    post_same : (to : List Member) (bytes : List ℕ) → post_again c said ≡ acts.Post to bytes → payload_bytes (payloads.Plain said.bytes) ≡ bytes
    post_same to bytes e = cc

  -- ---- who is challenged

  looked_openings : (c d : ServerView) → d.evidence ≡ c.evidence → d.opened ≡ c.opened → d.pasts ≡ c.pasts → d.signed ≡ c.signed → KeepsOpenings roster c → KeepsOpenings roster d
  looked_openings c d evidence opened pasts signed h = record {
    evidence = λ said at. h.evidence said (subst (λ (xs : List SaidView). Contains xs said) evidence at);
    opened = λ place at.
        let past = h.opened place (subst (λ (xs : List Place). Contains xs place) opened at) in
        (past.0, ap (λ (ps : List Past). past_of ps place.r.0) pasts ∙ past.1, subst (λ (ss : List Statement). Contains ss (shown_of past.0)) (sym signed) past.2);
  }

  abbrev pub Looks : ServerView → List Act → ServerView → Type 0
  Looks c did d = OpensBy c did d × (KeepsOpenings roster c → KeepsOpenings roster d)

  looked_same : (c d : ServerView) (place : Place) (did : List Act) → did ≡ [] → d ≡ with_looked c place → Looks c did d
  looked_same c d place did none_done same =
      subst (λ (xs : List Act). Looks c xs d) (sym none_done) (subst (Looks c []) (sym same)
      (rests_so c (with_looked c place) refl refl refl refl refl refl, looked_openings c (with_looked c place) refl refl refl refl))

  looks_so : (c d : ServerView) (place : Place) (did : List Act) → LooksAt c place did d → Looks c did d
  looks_so c d place did (has_looked there none_done same) =
      subst (λ (xs : List Act). Looks c xs d) (sym none_done) (subst (Looks c []) (sym same) (rests_so c c refl refl refl refl refl refl, λ h. h))
  looks_so c d place did (waits not_yet missing none_done same) =
      subst (λ (xs : List Act). Looks c xs d) (sym none_done) (subst (Looks c []) (sym same) (rests_so c c refl refl refl refl refl refl, λ h. h))
  looks_so c d place did (finds_fault trial not_yet all at names none_done same) = looked_same c d place did none_done same
  looks_so c d place did (finds_nobody trial not_yet all at names nobody none_done same) = looked_same c d place did none_done same
  looks_so c d place did (challenges trial first others envelopes not_yet all at names due them is same) =
      let post = acts.Post (first ∷ others) (payload_bytes (payloads.Challenge place.r place.k envelopes)) in
      subst (λ (xs : List Act). Looks c xs d) (sym is) (subst (Looks c (post ∷ [])) (sym same) (
        record {
          seat = refl;
          key_stays = refl;
          chain = refl;
          run = refl;
          pasts = refl;
          fresh = [];
          signed = no_more c.signed;
          of_kind = λ t h. absurd (nothing t h);
          says = λ t h. absurd (nothing t h);
          fronts = λ to bytes h who t front.
              absurd (challenge_front roster place.r place.k envelopes envelopes bytes who t (bytes_same to bytes (only post (acts.Post to bytes) h)) front);
          all_posts = λ a h. subst IsPost (only post a h) tt;
          carried = carried_post (first ∷ others) (payload_bytes (payloads.Challenge place.r place.k envelopes)) [] tt nothing_is;
        },
        looked_openings c (with_looked c place) refl refl refl refl,
      ))
    where
      bytes_same : (to : List Member) (bytes : List ℕ) → acts.Post (first ∷ others) (payload_bytes (payloads.Challenge place.r place.k envelopes)) ≡ acts.Post to bytes
          → payload_bytes (payloads.Challenge place.r place.k envelopes) ≡ bytes
      bytes_same to bytes e = cc

  pub looks_all : (c d : ServerView) (places : List Place) (did : List Act) → LooksAtAll c places did d → Looks c did d
  looks_all c d places did (none no_place none_done same) =
      subst (λ (xs : List Act). Looks c xs d) (sym none_done) (subst (Looks c []) (sym same) (rests_so c c refl refl refl refl refl refl, λ h. h))
  looks_all c d places did (more place others first rest between are looks last is) =
      let one = looks_all c between others first looks in
      let two = looks_so between d place rest last in
      subst (λ (xs : List Act). Looks c xs d) (sym is) (then_so c between d first rest one.0 two.0, λ h. two.1 (one.1 h))

  -- a statement that is kept besides
  pub hears_so : (c : ServerView) (said : SaidView) → Unseals roster said.bytes said.signer said.statement → Looks c [] (with_evidence c said)
  hears_so c said unseals = (
    rests_so c (with_evidence c said) refl refl refl refl refl refl,
    λ h. record {
      evidence = λ other at. elim (Contains-append_cases c.evidence (said ∷ []) other at) [
        | inl old ↦ h.evidence other old
        | inr now ↦ subst (λ (z : SaidView). Unseals roster z.bytes z.signer z.statement) (only said other now) unseals
      ];
      opened = h.opened;
    },
  )

  pub looks_then : (c m d : ServerView) (did rest : List Act) → Looks c did m → Looks m rest d → Looks c (did ++ rest) d
  looks_then c m d did rest one two = (then_so c m d did rest one.0 two.0, λ h. two.1 (one.1 h))

  -- ---- a place is opened

  place_opened : (places : List Place) (r : Round) → list_any (λ (p : Place). p.r.0 == r.0) places ≡ true → (place : Place) × Contains places place × (place.r.0 ≡ r.0)
  place_opened [] r e = absurd cc
  place_opened (p ∷ ps) r e =
      elim (cases_Bool (p.r.0 == r.0)) [
        | inl is ↦ (p, here p ps, eqb-true p.r.0 r.0 is)
        | inr other ↦ let rest = place_opened ps r (rw other at e) in (rest.0, later p ps rest.0 rest.1, rest.2)
      ]

  -- what is signed and kept leaves the rest
  pub record KeepsRest (c : ServerView) (t : Statement) (d : ServerView) : Type 0 where
    pub signed_is : d.signed ≡ c.signed ++ t ∷ []
    pub opened_is : d.opened ≡ c.opened
    pub key_same : d.key ≡ c.key
    pub pasts_same : d.pasts ≡ c.pasts

  kept_rest : (c d : ServerView) (t : Statement) → SignsAndKeeps c t d → KeepsRest c t d
  kept_rest c d t (is_kept there same) = subst (KeepsRest c t) (sym same) (record { signed_is = refl; opened_is = refl; key_same = refl; pasts_same = refl })
  kept_rest c d t (is_new there same) = subst (KeepsRest c t) (sym same) (record { signed_is = refl; opened_is = refl; key_same = refl; pasts_same = refl })

  in_kept : (c d : ServerView) (t u : Statement) → SignsAndKeeps c t d → Contains (c.signed ++ t ∷ []) u → Contains d.signed u
  in_kept c d t u signs h = subst (λ (ss : List Statement). Contains ss u) (sym (kept_rest c d t signs).signed_is) h

  -- what was signed stays where ciphertexts are shown
  shows_keep : (c d : ServerView) (past : Past) (did : List Act) → Shows c past did d → (u : Statement) → Contains c.signed u → Contains d.signed u
  shows_keep c d past did (first_of_round unopened signs is) u h = in_kept c d (shown_of past) u signs (Contains-append_left c.signed (shown_of past ∷ []) u h)
  shows_keep c d past did (again said was there signer statement is same) u h = subst (λ (z : ServerView). Contains z.signed u) (sym same) h

  module _ (c d : ServerView) (its : IsIts c) (b : Body) (past : Past) (k : ℕ) (did : List Act) (opens : Opens c b past k did d) (kept_past : past_of c.pasts past.body.r.0 ≡ Some past)
      (same_round : past.body.r ≡ b.r) (leaves : leaves_due c past.body.r ≤ left_of c) (in_done : (t : Statement) → Contains d.signed t → Contains done t) (held : KeepsOpenings roster c) where
    abbrev pads : Statement
    pads = pads_at c.seat b k

    abbrev padded : ServerView
    padded = opens.padded

    abbrev shown : ServerView
    shown = opens.shown

    abbrev marked : ServerView
    marked = with_opened shown record { r = b.r; k = k }

    looked : Looks (with_opened opens.shown record { r = b.r; k = k }) opens.looked_did d
    looked = looks_so marked d record { r = b.r; k = k } opens.looked_did opens.looks

    pads_leaf : length c.signed < leaf_count c.key
    pads_leaf = one_leaf (has_opened c past.body.r) leaves where
      one_leaf : (t : Bool) → (if t then 1 else 2) ≤ leaf_count c.key - length c.signed → length c.signed < leaf_count c.key
      one_leaf true h = omega (arith, h)
      one_leaf false h = omega (arith, h)

    rest : KeepsRest c pads padded
    rest = kept_rest c padded pads opens.signs

    in_shown : (t : Statement) → Contains shown.signed t → Contains done t
    in_shown t h = in_done t (subst (λ (ss : List Statement). Contains ss t) (sym looked.0.signed) (Contains-append_left shown.signed looked.0.fresh t h))

    in_padded : (t : Statement) → Contains padded.signed t → Contains done t
    in_padded t h = in_shown t (shows_keep padded shown past opens.shown_did opens.shows t h)

    pads_done : Contains done pads
    pads_done = in_padded pads (in_kept c padded pads pads opens.signs (Contains-append_right c.signed (pads ∷ []) pads (here pads [])))

    pads_so : OpensBy c (post_next c (others_of c.seat) pads ∷ []) padded
    pads_so = keeps_so c its (others_of c.seat) pads pads_leaf tt pads_done padded opens.signs

    padded_keeps : KeepsOpenings roster padded
    padded_keeps = keeps_openings c its (others_of c.seat) pads pads_leaf tt pads_done padded opens.signs held

    its_padded : IsIts padded
    its_padded = its_after c padded (post_next c (others_of c.seat) pads ∷ []) its pads_so

    -- where it had opened a place of the round, it had signed what it shows
    had_shown : has_opened padded past.body.r ≡ true → Contains padded.signed (shown_of past)
    had_shown e =
        let at = place_opened c.opened past.body.r (subst (λ (ps : List Place). list_any (λ (p : Place). p.r.0 == past.body.r.0) ps ≡ true) rest.opened_is e) in
        let was = held.opened at.0 at.1 in
        let same : was.0 ≡ past = same_Some was.0 past (sym was.1 ∙ ap (λ (n : ℕ). past_of c.pasts n) at.2 ∙ kept_past) in
        in_kept c padded pads (shown_of past) opens.signs (Contains-append_left c.signed (pads ∷ []) (shown_of past) (subst (λ (z : Past). Contains c.signed (shown_of z)) same was.2))

    two_leaves : has_opened padded past.body.r ≡ false → length padded.signed < leaf_count padded.key
    two_leaves e =
        let none_opened : has_opened c past.body.r ≡ false = subst (λ (ps : List Place). list_any (λ (p : Place). p.r.0 == past.body.r.0) ps ≡ false) rest.opened_is e in
        let due : 2 ≤ leaf_count c.key - length c.signed = subst (λ (t : Bool). (if t then 1 else 2) ≤ leaf_count c.key - length c.signed) none_opened leaves in
        let long : length padded.signed ≡ length c.signed + 1 = ap (λ (ss : List Statement). length ss) rest.signed_is ∙ length-append c.signed (pads ∷ []) in
        let key_too : leaf_count padded.key ≡ leaf_count c.key = ap (λ (z : Key). leaf_count z) rest.key_same in
        omega (arith, due, long, key_too)

    -- the ciphertexts are shown
    abbrev ShownSo : List Act → ServerView → Type 0
    ShownSo done_acts z = OpensBy padded done_acts z × KeepsOpenings roster z × Contains z.signed (shown_of past)

    shows_so : (shown_did : List Act) (z : ServerView) → Shows padded past shown_did z → ((t : Statement) → Contains z.signed t → Contains done t) → ShownSo shown_did z
    shows_so shown_did z (first_of_round unopened signs is) all_done =
        let signed_it = in_kept padded z (shown_of past) (shown_of past) signs (Contains-append_right padded.signed (shown_of past ∷ []) (shown_of past) (here (shown_of past) [])) in
        let among = all_done (shown_of past) signed_it in (
          subst (λ (xs : List Act). OpensBy padded xs z) (sym is) (keeps_so padded its_padded (others_of padded.seat) (shown_of past) (two_leaves unopened) tt among z signs),
          keeps_openings padded its_padded (others_of padded.seat) (shown_of past) (two_leaves unopened) tt among z signs padded_keeps,
          signed_it,
        )
    shows_so shown_did z (again said was there signer statement is same) all_done =
        let unseals : Unseals roster said.bytes (Server j) (shown_of past) =
        subst (λ (who : SignerId). Unseals roster said.bytes who (shown_of past)) (signer ∙ its_padded.itself_is)
        (subst (Unseals roster said.bytes said.signer) statement (padded_keeps.evidence said there)) in
        let had = had_shown was in
        subst (λ (xs : List Act). ShownSo xs z) (sym is) (subst (ShownSo (post_again padded said ∷ [])) (sym same)
        (again_so padded said (shown_of past) unseals (in_padded (shown_of past) had), padded_keeps, had))

    shown_so : ShownSo opens.shown_did opens.shown
    shown_so = shows_so opens.shown_did shown opens.shows in_shown

    -- the place is marked as opened
    marked_keeps : KeepsOpenings roster marked
    marked_keeps = record {
      evidence = shown_so.1.evidence;
      opened = λ place at. elim (Contains-append_cases shown.opened (record { r = b.r; k = k } ∷ []) place at) [
        | inl old ↦ shown_so.1.opened place old
        | inr now ↦ subst (λ (p : Place). (x : Past) × (past_of shown.pasts p.r.0 ≡ Some x) × Contains shown.signed (shown_of x)) (only (record { r = b.r; k = k }) place now) (
          past,
          ap (λ (ps : List Past). past_of ps b.r.0) (shown_so.0.pasts ∙ pads_so.pasts) ∙ ap (λ (q : Round). past_of c.pasts q.0) (sym same_round) ∙ kept_past,
          shown_so.2,
        )
      ];
    }

    pub opens_so : Looks c did d
    opens_so =
        let to_marked : OpensBy c ((post_next c (others_of c.seat) pads ∷ []) ++ opens.shown_did) marked =
        subst (λ (xs : List Act). OpensBy c xs marked) (sym (no_more ((post_next c (others_of c.seat) pads ∷ []) ++ opens.shown_did)))
        (then_so c shown marked ((post_next c (others_of c.seat) pads ∷ []) ++ opens.shown_did) []
        (then_so c padded shown (post_next c (others_of c.seat) pads ∷ []) opens.shown_did pads_so shown_so.0) (rests_so shown marked refl refl refl refl refl refl)) in (
          subst (λ (xs : List Act). OpensBy c xs d) (sym opens.in_order) (then_so c marked d ((post_next c (others_of c.seat) pads ∷ []) ++ opens.shown_did) opens.looked_did to_marked looked.0),
          λ h. looked.1 marked_keeps,
        )
