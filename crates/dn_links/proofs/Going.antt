-- What going on in its round does to a server's core.
use Rattle.std.proofs.Common.{◌≡◌, ℕ, ◌<◌, List, [], ◌∷◌, ◌++◌, length, refl, sym, ap, subst, ◌∙◌, inl, inr}
use Rattle.std.specs.Prelude.{Contains, Option, Some, None, ◌⊎◌}
use Rattle.std.proofs.lemmas.Option.{same_Some}
use Rattle.std.proofs.lemmas.List.Elements.{Contains-append_left, Contains-append_right, Contains-append_cases}
use Rattle.dn_wire.specs.declared.ids.Member.{Member}
use Rattle.dn_wire.specs.declared.ids.ServerId.{ServerId}
use Rattle.dn_record_types.specs.declared.body.Body.{Body}
use Rattle.dn_record_types.specs.declared.statement.Statement.{Statement}
use Rattle.dn_record_types.specs.declared.statement.Statement.TheVariants as kinds
use Rattle.dn_records.specs.Records.{kind_byte}
use Rattle.dn_seal.specs.Said.{SaidView}
use Rattle.dn_cert.specs.Certificate.{CertificateView}
use Rattle.dn_cert.specs.Chain.{CanFollow, with_held}
use Rattle.dn_cert.proofs.Orders.{here, later, nothing, first_or_later}
use Rattle.dn_cert.proofs.GrowthLemmas.{held_stays, held_only}
use Rattle.dn_server.specs.declared.act.Act.{Act}
use Rattle.dn_server.specs.declared.act.Act.TheVariants as acts
use Rattle.dn_server.specs.declared.act.SpoilReason.{SpoilReason}
use Rattle.dn_server.specs.declared.past.Past.{Past}
use Rattle.dn_server.specs.declared.run.Stage.{Stage}
use Rattle.dn_server.specs.declared.run.Sum.{Sum}
use Rattle.dn_server.specs.Justified.{Seat}
use Rattle.dn_lms.specs.Key.{Key}
use Rattle.dn_server.specs.Keeping.{round_of}
use Rattle.dn_server.specs.Server.{ServerView, itself, servers_in, others_of, everyone_of, kept_of, said_next, post_next, ended}
use Rattle.dn_rounds.specs.Going.{Step, Steps, says, with_own, certified, HasLeaf, IsAgreed, IsCertificateOf}
use Rattle.dn_rounds.specs.Going.Step.{commits, reveals, signs, signs_thin, certifies, commit_conflicts, reveal_conflicts, body_opposed, thin_opposed}
use Rattle.dn_rounds.specs.Going.Steps.{no_step, one_more}
use Rattle.dn_headline.specs.Invariant.{HoldsOneEach}
use Rattle.dn_links.specs.Going.{IsSealedBy, Certifies, KeepsRound, GoesBy}
use Rattle.dn_links.proofs.Linking.{kept_there}

no_more : {A : Type 0} (xs : List A) → xs ≡ xs ++ []
no_more [] = refl
no_more (x ∷ xs) = ap (λ ys. x ∷ ys) (no_more xs)

both_ways : {A : Type 0} (xs ys zs : List A) → (xs ++ ys) ++ zs ≡ xs ++ (ys ++ zs)
both_ways [] ys zs = refl
both_ways (x ∷ xs) ys zs = ap (λ ws. x ∷ ws) (both_ways xs ys zs)

only_one : {A : Type 0} (x y : A) → Contains (x ∷ []) y → x ≡ y
only_one x y h = elim (first_or_later x [] y h) [ inl is ↦ is | inr none ↦ absurd (nothing y none) ]

-- ---- nothing

pub stands_by : (c : ServerView) → GoesBy c [] c
stands_by c = record {
  seat = refl;
  key = refl;
  r = refl;
  prev = refl;
  claims = refl;
  closed = λ h. h;
  fresh = [];
  signed = no_more c.signed;
  of_round = λ s h. absurd (nothing s h);
  posted = λ s h. absurd (nothing s h);
  posts = λ to bytes h. absurd (nothing (acts.Post to bytes) h);
  kept = λ said h. inl h;
  keeps = λ said h. h;
  slots = refl;
  held = λ b h. h;
  new = λ b h. inl h;
  one_each = λ one. one;
  runs_on = λ h. h;
  ends = λ keeps on. inl on;
}

-- ---- one thing after the other

certifies_left : (c : ServerView) (did rest : List Act) (e : CertificateView) → Certifies c did e → Certifies c (did ++ rest) e
certifies_left c did rest e h = record {
  told = Contains-append_left did rest (acts.Certified e) h.told;
  certificate = h.certificate;
  under = h.under;
  posted = Contains-append_left did rest (acts.Post (everyone_of c.seat) e.bytes) h.posted;
}

module _ (c m d : ServerView) (did rest : List Act) (one : GoesBy c did m) (two : GoesBy m rest d) where
  as_sealed : (s : Statement) (bytes : List ℕ) → IsSealedBy m s bytes → IsSealedBy c s bytes
  as_sealed s bytes h =
      subst (λ (z : Seat). IsSealedBy (record c { seat = z }) s bytes) one.seat
      (subst (λ (k : Key). IsSealedBy (record c { seat = m.seat; key = k }) s bytes) one.key h)

  certifies_right : (e : CertificateView) → Certifies m rest e → Certifies c (did ++ rest) e
  certifies_right e h =
      let all = subst (λ (z : Seat). Certifies (record m { seat = z }) rest e) one.seat h in
      record {
        told = Contains-append_right did rest (acts.Certified e) all.told;
        certificate = all.certificate;
        under = all.under;
        posted = Contains-append_right did rest (acts.Post (everyone_of c.seat) e.bytes) all.posted;
      }

  keeps_round : KeepsRound c → KeepsRound m
  keeps_round keeps said h =
      elim (one.kept said h) [
        | inl old ↦ keeps said old ∙ ap Some (sym one.r)
        | inr new ↦ one.of_round said.statement new.0 ∙ ap Some (sym one.r)
      ]

  pub then_by : GoesBy c (did ++ rest) d
  then_by = record {
    seat = two.seat ∙ one.seat;
    key = two.key ∙ one.key;
    r = two.r ∙ one.r;
    prev = two.prev ∙ one.prev;
    claims = two.claims ∙ one.claims;
    closed = λ h. two.closed (one.closed h);
    fresh = one.fresh ++ two.fresh;
    signed = two.signed ∙ ap (λ (ss : List Statement). ss ++ two.fresh) one.signed ∙ both_ways c.signed one.fresh two.fresh;
    of_round = λ s h. elim (Contains-append_cases one.fresh two.fresh s h) [
      | inl a ↦ one.of_round s a
      | inr b ↦ two.of_round s b ∙ ap Some one.r
    ];
    posted = λ s h. elim (Contains-append_cases one.fresh two.fresh s h) [
      | inl a ↦ let p = one.posted s a in (p.0, p.1, Contains-append_left did rest (acts.Post (others_of c.seat) p.0) p.2)
      | inr b ↦
          let p = two.posted s b in (
            p.0,
            as_sealed s p.0 p.1,
            Contains-append_right did rest (acts.Post (others_of c.seat) p.0)
                (subst (λ (z : Seat). Contains rest (acts.Post (others_of z) p.0)) one.seat p.2),
          )
    ];
    posts = λ to bytes h. elim (Contains-append_cases did rest (acts.Post to bytes) h) [
      | inl a ↦ elim (one.posts to bytes a) [
        | inl s ↦ inl (s.0, Contains-append_left one.fresh two.fresh s.0 s.1, s.2)
        | inr e ↦ inr (e.0, certifies_left c did rest e.0 e.1, e.2)
      ]
      | inr b ↦ elim (two.posts to bytes b) [
        | inl s ↦ inl (s.0, Contains-append_right one.fresh two.fresh s.0 s.1, as_sealed s.0 bytes s.2)
        | inr e ↦ inr (e.0, certifies_right e.0 e.1, e.2)
      ]
    ];
    kept = λ said h. elim (two.kept said h) [
      | inl m_kept ↦ elim (one.kept said m_kept) [
        | inl old ↦ inl old
        | inr own ↦ inr (Contains-append_left one.fresh two.fresh said.statement own.0, own.1)
      ]
      | inr own ↦ inr (
        Contains-append_right one.fresh two.fresh said.statement own.0,
        own.1 ∙ ap (λ (z : Seat). itself (record c { seat = z })) one.seat,
      )
    ];
    keeps = λ said h. two.keeps said (one.keeps said h);
    slots = two.slots ∙ one.slots;
    held = λ b h. two.held b (one.held b h);
    new = λ b h. elim (two.new b h) [
      | inl m_held ↦ elim (one.new b m_held) [ inl old ↦ inl old | inr e ↦ inr (e.0, certifies_left c did rest e.0 e.1, e.2) ]
      | inr e ↦ inr (e.0, certifies_right e.0 e.1, e.2)
    ];
    one_each = λ h. two.one_each (one.one_each h);
    runs_on = λ h. one.runs_on (two.runs_on h);
    ends = λ keeps on. elim (one.ends keeps on) [
      | inr ended_ ↦ inr (elim ended_ [
        | inl e ↦ inl (e.0, certifies_left c did rest e.0 e.1, e.2)
        | inr x ↦ inr (x.0, x.1, x.2, x.3, Contains-append_left did rest (acts.Spoiled x.0 x.1 x.2 x.3) x.4)
      ])
      | inl on_m ↦ elim (two.ends (keeps_round keeps) on_m) [
        | inl on_d ↦ inl on_d
        | inr ended_ ↦ inr (elim ended_ [
          | inl e ↦ inl (e.0, certifies_right e.0 e.1, e.2 ∙ one.r)
          | inr x ↦ inr (x.0, x.1, x.2, x.3, Contains-append_right did rest (acts.Spoiled x.0 x.1 x.2 x.3) x.4)
        ])
      ]
    ];
  }

-- ---- a statement that is said

own_cases : (o : Option SaidView) (kept : List SaidView) (own said : SaidView) → Contains (with_own o kept own) said → Contains kept said ⊎ (own ≡ said)
own_cases None kept own said h =
    elim (Contains-append_cases kept (own ∷ []) said h) [ inl old ↦ inl old | inr new ↦ inr (only_one own said new) ]
own_cases (Some other) kept own said h = inl h

own_keeps : (o : Option SaidView) (kept : List SaidView) (own said : SaidView) → Contains kept said → Contains (with_own o kept own) said
own_keeps None kept own said h = Contains-append_left kept (own ∷ []) said h
own_keeps (Some other) kept own said h = h

pub says_by : (c : ServerView) (s : Statement) (stage : Stage) (sum : Option Sum) (pasts : List Past) (bend : Option ℕ) → HasLeaf c → round_of s ≡ Some c.run.r
    → GoesBy c (post_next c (others_of c.seat) s ∷ []) (record (says c s stage sum) { pasts = pasts; bend = bend })
says_by c s stage sum pasts bend leaf round =
    let o = kept_of c.run.kept (kind_byte s) c.seat.number in
    let own = said_next c s in
    let sealed : (bytes : List ℕ) → acts.Post (others_of c.seat) bytes ≡ post_next c (others_of c.seat) s → IsSealedBy c s bytes =
    λ bytes e. (length c.signed, leaf, bytes_of_post _ _ bytes _ e) in
    record {
      seat = refl;
      key = refl;
      r = refl;
      prev = refl;
      claims = refl;
      closed = λ h. h;
      fresh = s ∷ [];
      signed = refl;
      of_round = λ t h. subst (λ (z : Statement). round_of z ≡ Some c.run.r) (only_one s t h) round;
      posted = λ t h. subst (λ (z : Statement). (bytes : List ℕ) × IsSealedBy c z bytes × Contains (post_next c (others_of c.seat) s ∷ []) (acts.Post (others_of c.seat) bytes)) (only_one s t h)
          (_, (length c.signed, leaf, refl), here (post_next c (others_of c.seat) s) []);
      posts = λ to bytes h.
          let is = only_one (post_next c (others_of c.seat) s) (acts.Post to bytes) h in
          inl (s, here s [], (length c.signed, leaf, bytes_of_post _ _ bytes _ (sym is)));
      kept = λ said h. elim (own_cases o c.run.kept own said h) [
        | inl old ↦ inl old
        | inr is ↦ inr (subst (λ (z : SaidView). Contains (s ∷ []) z.statement × (z.signer ≡ itself c)) is (here s [], refl))
      ];
      keeps = λ said h. own_keeps o c.run.kept own said h;
      slots = refl;
      held = λ b h. h;
      new = λ b h. inl h;
      one_each = λ one. one;
      runs_on = λ h. h;
      ends = λ keeps on. inl on;
    } where
      bytes_of_post : (to other : List Member) (bytes more : List ℕ) → acts.Post to bytes ≡ acts.Post other more → bytes ≡ more
      bytes_of_post to other bytes more e = cc

-- ---- a run that ends

pub spoils_by : (c : ServerView) (x : ServerId) (reason : SpoilReason) (kept came : List ℕ) (bend : Option ℕ)
    → GoesBy c (acts.Spoiled x reason kept came ∷ []) (record (ended c) { bend = bend })
spoils_by c x reason kept came bend = record {
  seat = refl;
  key = refl;
  r = refl;
  prev = refl;
  claims = refl;
  closed = λ h. refl;
  fresh = [];
  signed = no_more c.signed;
  of_round = λ s h. absurd (nothing s h);
  posted = λ s h. absurd (nothing s h);
  posts = λ to bytes h. absurd (no_post to bytes (only_one (acts.Spoiled x reason kept came) (acts.Post to bytes) h));
  kept = λ said h. inl h;
  keeps = λ said h. h;
  slots = refl;
  held = λ b h. h;
  new = λ b h. inl h;
  one_each = λ one. one;
  runs_on = λ h. absurd cc;
  ends = λ keeps on. inr (inr (x, reason, kept, came, here (acts.Spoiled x reason kept came) []));
} where
  no_post : (to : List Member) (bytes : List ℕ) → acts.Spoiled x reason kept came ≡ acts.Post to bytes → ⊥
  no_post to bytes e = absurd cc

module _ (c : ServerView) (b : Body) (e : CertificateView) (agreed : IsAgreed c b) (is : IsCertificateOf c b e) (can : CanFollow c.chain e.body) where
  did_certify : List Act
  did_certify = acts.Certified e ∷ acts.Post (everyone_of c.seat) e.bytes ∷ []

  it_certifies : Certifies c (acts.Certified e ∷ acts.Post (everyone_of c.seat) e.bytes ∷ []) e
  it_certifies = record {
    told = here (acts.Certified e) (acts.Post (everyone_of c.seat) e.bytes ∷ []);
    certificate = is.certificate;
    under = is.under;
    posted = later (acts.Certified e) (acts.Post (everyone_of c.seat) e.bytes ∷ []) (acts.Post (everyone_of c.seat) e.bytes) (here (acts.Post (everyone_of c.seat) e.bytes) []);
  }

  no_post : (to : List Member) (bytes : List ℕ) → acts.Certified e ≡ acts.Post to bytes → ⊥
  no_post to bytes eq = absurd cc

  its_bytes : (to other : List Member) (bytes more : List ℕ) → acts.Post to bytes ≡ acts.Post other more → bytes ≡ more
  its_bytes to other bytes more eq = cc

  grown_one : HoldsOneEach c.chain → HoldsOneEach (record c.chain { held = with_held e.body c.chain.held })
  grown_one one x y hx hy eq =
      elim (held_only e.body c.chain.held x hx) [
        | inl x_new ↦ elim (held_only e.body c.chain.held y hy) [
          | inl y_new ↦ sym x_new ∙ y_new
          | inr y_old ↦ absurd (can.new (y, y_old, sym eq ∙ ap (λ (z : Body). z.r.0) (sym x_new)))
        ]
        | inr x_old ↦ elim (held_only e.body c.chain.held y hy) [
          | inl y_new ↦ absurd (can.new (x, x_old, eq ∙ ap (λ (z : Body). z.r.0) (sym y_new)))
          | inr y_old ↦ one x y x_old y_old eq
        ]
      ]

  round_is : (s : Statement) (t : Body) → s ≡ kinds.Sign t → round_of s ≡ Some c.run.r → t.r ≡ c.run.r
  round_is s t same round = same_Some t.r c.run.r (ap round_of (sym same) ∙ round)

  pub certified_by : c.seat.number < servers_in c → GoesBy c (acts.Certified e ∷ acts.Post (everyone_of c.seat) e.bytes ∷ []) (certified c e)
  certified_by within = record {
    seat = refl;
    key = refl;
    r = refl;
    prev = refl;
    claims = refl;
    closed = λ h. refl;
    fresh = [];
    signed = no_more c.signed;
    of_round = λ s h. absurd (nothing s h);
    posted = λ s h. absurd (nothing s h);
    posts = λ to bytes h. elim (first_or_later (acts.Certified e) (acts.Post (everyone_of c.seat) e.bytes ∷ []) (acts.Post to bytes) h) [
      | inl first ↦ absurd (no_post to bytes first)
      | inr behind ↦ inr (e, it_certifies, its_bytes _ _ bytes e.bytes (sym (only_one (acts.Post (everyone_of c.seat) e.bytes) (acts.Post to bytes) behind)))
    ];
    kept = λ said h. inl h;
    keeps = λ said h. h;
    slots = refl;
    held = λ x h. held_stays e.body c.chain.held x h;
    new = λ x h. elim (held_only e.body c.chain.held x h) [ inl same ↦ inr (e, it_certifies, same) | inr old ↦ inl old ];
    one_each = grown_one;
    runs_on = λ h. absurd cc;
    ends = λ keeps on.
        let own = kept_there c.run.kept 6 c.seat.number (kinds.Sign b) (agreed.signs c.seat.number within) in
        inr (inl (e, it_certifies, ap (λ (z : Body). z.r) is.body ∙ round_is own.0.statement b own.3 (keeps own.0 own.1)));
  }

-- ---- steps

abbrev as_is : (c : ServerView) (did other : List Act) (d more : ServerView) → did ≡ other → d ≡ more → GoesBy c other more → GoesBy c did d
as_is c did other d more same is by = subst (λ (a : List Act). GoesBy c a d) (sym same) (subst (λ (z : ServerView). GoesBy c other z) (sym is) by)

pub step_by : (c : ServerView) (did : List Act) (d : ServerView) → c.seat.number < servers_in c → Step c did d → GoesBy c did d
step_by c did d within (commits sum due free leaf same is) =
    as_is c did _ d _ same is (says_by c _ _ (Some sum) c.pasts None leaf refl)
step_by c did d within (reveals sum due free leaf same is) =
    as_is c did _ d _ same is (says_by c _ _ (Some sum) c.pasts c.bend leaf refl)
step_by c did d within (signs sum b due free leaf same is) =
    as_is c did _ d _ same is (says_by c (kinds.Sign b) _ (Some sum) _ c.bend leaf (ap (λ (z : Body). Some z.r) due.is))
step_by c did d within (signs_thin b due free leaf same is) =
    as_is c did _ d _ same is (says_by c (kinds.Sign b) _ c.run.sum _ c.bend leaf (ap (λ (z : Body). Some z.r) due.is))
step_by c did d within (certifies b e agreed of can same is) = as_is c did _ d _ same is (certified_by c b e agreed of can within)
step_by c did d within (commit_conflicts sum other due conflicts same is) = as_is c did _ d _ same is (spoils_by c _ _ _ _ None)
step_by c did d within (reveal_conflicts sum other due conflicts same is) = as_is c did _ d _ same is (spoils_by c _ _ _ _ c.bend)
step_by c did d within (body_opposed sum b j other due against same is) = as_is c did _ d _ same is (spoils_by c _ _ _ _ c.bend)
step_by c did d within (thin_opposed b j other due against same is) = as_is c did _ d _ same is (spoils_by c _ _ _ _ c.bend)

pub steps_by : (c : ServerView) (did : List Act) (d : ServerView) → c.seat.number < servers_in c → Steps c did d → GoesBy c did d
steps_by c did d within (no_step same is) = as_is c did [] d c same is (stands_by c)
steps_by c did d within (one_more first rest between on step steps same) =
    let one = step_by c first between within step in
    let two = steps_by between rest d (subst (λ (z : Seat). z.number < servers_in (record c { seat = z })) (sym one.seat) within) steps in
    subst (λ (a : List Act). GoesBy c a d) (sym same) (then_by c between d first rest one two)
