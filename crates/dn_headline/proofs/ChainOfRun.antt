-- Each list of puts has a chain, and one.
use Rattle.std.proofs.Common.{◌≡◌, ◌≢◌, ℕ, ◌<◌, List, [], ◌∷◌, ◌++◌, length, replicate, refl, sym, ap, subst, ◌∙◌, inl, inr}
use Rattle.std.specs.Prelude.{Contains, All}
use Rattle.std.proofs.lemmas.List.Elements.{All-contains}
use Rattle.dn_wire.specs.declared.ids.Round.{Round}
use Rattle.dn_record_types.specs.declared.body.Body.{Body}
use Rattle.dn_record_types.specs.declared.payload.Payload.TheVariants as payloads
use Rattle.dn_record_types.specs.Exact.{IsBytes}
use Rattle.dn_record_types.proofs.RecordLaws.{payload_once}
use Rattle.dn_roster.specs.Roster.{RosterView}
use Rattle.dn_cert.specs.Certificate.{CertificateView}
use Rattle.dn_cert.specs.Chain.{ChainView, bodies, IsLayoutAfter, CanFollow, bits_due, layout_after, count_at, with_held}
use Rattle.dn_cert.specs.Chain.LayoutAfter.{at_first, after_prev}
use Rattle.dn_cert.specs.Floor.{is_due_thin}
use Rattle.dn_cert.proofs.ChainLemmas.{layouts_agree, layout_stays}
use Rattle.dn_cert.proofs.Orders.{here, later, nothing, All-from_contains}
use Rattle.dn_headline.specs.Log.{Put}
use Rattle.dn_headline.specs.Certified.{IsCertificateOf, IsChainOf}
use Rattle.dn_headline.specs.Certified.IsChainOf.{empty, held, refused, other}
use Rattle.dn_cert.proofs.GrowthLemmas.{held_stays, held_comes, held_only}
use Rattle.dn_headline.proofs.RunChain.{decide_held}
use Rattle.dn_headline.proofs.Deciding.{Decided, decide_eq, decide_bool, decide_certificate}

assoc : {A : Type 0} (xs ys zs : List A) → (xs ++ ys) ++ zs ≡ xs ++ (ys ++ zs)
assoc [] ys zs = refl
assoc (x ∷ xs) ys zs = ap (λ ws. x ∷ ws) (assoc xs ys zs)

-- the bodies of a chain come after their prevs, one a round, and each has a layout
pub record Hangs (chain : ChainView) : Type 0 where
  pub before : (b : Body) → Contains (bodies chain) b → b.prev.0 < b.r.0
  pub one : (b c : Body) → Contains (bodies chain) b → Contains (bodies chain) c → b.r.0 ≡ c.r.0 → b ≡ c
  pub layouts : (b : Body) → Contains (bodies chain) b → (layout : List ℕ) × IsLayoutAfter chain b.r.0 layout

module _ (chain : ChainView) (hangs : Hangs chain) where
  one_layout : (r : ℕ) (l m : List ℕ) → IsLayoutAfter chain r l → IsLayoutAfter chain r m → l ≡ m
  one_layout r l m x y =
      let before : All (λ (b : Body). b.prev.0 < b.r.0) (bodies chain) = All-from_contains (λ (b : Body). b.prev.0 < b.r.0) (bodies chain) hangs.before in
      layouts_agree chain.slots (bodies chain) (bodies chain) before before (λ b c inside within same. hangs.one b c inside within (ap (λ (r : Round). r.0) same)) r l x m y

  -- with a layout after its prev, it can be told whether a body whose round isn't held can follow
  follows_on : (b : Body) → ((x : Body) → Contains (bodies chain) x → x.r.0 ≢ b.r.0) → (layout : List ℕ) → IsLayoutAfter chain b.prev.0 layout → Decided (CanFollow chain b)
  follows_on b new layout after =
      elim (decide_bool b.thin (is_due_thin b.version (length b.listed) (count_at chain b.prev.0))) [
        | inr not_so ↦ inr (λ can. not_so can.floor)
        | inl floor ↦ elim (decide_eq (length b.out) (bits_due layout b)) [
          | inl long ↦ inl (record { new = λ h. new h.0 h.1 h.2; layout = layout; after = after; floor = floor; long = long })
          | inr not_so ↦ inr (λ can. not_so (can.long ∙ ap (λ (l : List ℕ). bits_due l b) (one_layout b.prev.0 can.layout layout can.after after)))
        ]
      ]

  layout_of : (b : Body) (layout : List ℕ) → IsLayoutAfter chain b.prev.0 layout → (b.prev.0 ≢ 0) → ((x : Body) → Contains (bodies chain) x → x.r.0 ≢ b.prev.0) → ⊥
  layout_of b layout (at_first z is) some none = some z
  layout_of b layout (after_prev c before inside at rest is) some none = none c inside at

  pub decide_follow : (b : Body) → Decided (CanFollow chain b)
  decide_follow b =
      elim (decide_held (bodies chain) b.r.0) [
        | inl has ↦ inr (λ can. can.new has)
        | inr new ↦ elim (decide_eq b.prev.0 0) [
          | inl z ↦ follows_on b new (replicate chain.slots 0) (at_first z refl)
          | inr some ↦ elim (decide_held (bodies chain) b.prev.0) [
            | inl prev ↦
                let l = hangs.layouts prev.0 prev.1 in
                follows_on b new l.0 (subst (λ (r : ℕ). IsLayoutAfter chain r l.0) prev.2 l.1)
            | inr none ↦ inr (λ can. layout_of b can.layout can.after some none)
          ]
        ]
      ]

  hangs_on : (c : CertificateView) → c.body.prev.0 < c.body.r.0 → CanFollow chain c.body → Hangs (record chain { held = with_held c.body chain.held })
  hangs_on c after can =
      let longer : ChainView = record chain { held = with_held c.body chain.held } in
      let grows : (b : Body) → Contains (bodies chain) b → Contains (bodies longer) b = λ b h. held_stays c.body chain.held b h in
      let apart : (b : Body) → Contains (bodies chain) b → c.body.r.0 ≢ b.r.0 = λ b h e. can.new (b, h, sym e) in
      record {
        before = λ b h. elim (held_only c.body chain.held b h) [ inl is ↦ subst (λ (x : Body). x.prev.0 < x.r.0) is after | inr old ↦ hangs.before b old ];
        one = λ a b ha hb e. elim (held_only c.body chain.held a ha) [
          | inl is_a ↦ elim (held_only c.body chain.held b hb) [
            | inl is_b ↦ sym is_a ∙ is_b
            | inr old_b ↦ absurd (apart b old_b (ap (λ (x : Body). x.r.0) is_a ∙ e))
          ]
          | inr old_a ↦ elim (held_only c.body chain.held b hb) [
            | inl is_b ↦ absurd (apart a old_a (ap (λ (x : Body). x.r.0) is_b ∙ sym e))
            | inr old_b ↦ hangs.one a b old_a old_b e
          ]
        ];
        layouts = λ b h. elim (held_only c.body chain.held b h) [
          | inl is ↦ subst (λ (x : Body). (layout : List ℕ) × IsLayoutAfter longer x.r.0 layout) is (
            layout_after can.layout c.body,
            after_prev c.body can.layout (held_comes c.body chain.held) refl (layout_stays chain.slots (bodies chain) (bodies longer) grows c.body.prev.0 can.layout can.after) refl,
          )
          | inr old ↦ let l = hangs.layouts b old in (l.0, layout_stays chain.slots (bodies chain) (bodies longer) grows b.r.0 l.0 l.1)
        ];
      }

module _ (roster : RosterView) (slots : ℕ) where
  -- the chain of some puts, with those that follow
  along : (done rest : List Put) (chain : ChainView) → IsChainOf roster slots done chain → Hangs chain → ((p : Put) → Contains rest p → IsBytes p.bytes)
      → (more : ChainView) × IsChainOf roster slots (done ++ rest) more
  along done [] chain of hangs are = (chain, subst (λ (ps : List Put). IsChainOf roster slots ps chain) (no_more done) of) where
    no_more : (ps : List Put) → ps ≡ ps ++ []
    no_more [] = refl
    no_more (p ∷ ps) = ap (λ qs. p ∷ qs) (no_more ps)
  along done (p ∷ rest) chain of hangs are =
      let next : (more : ChainView) → IsChainOf roster slots (done ++ p ∷ []) more → Hangs more → (last : ChainView) × IsChainOf roster slots (done ++ p ∷ rest) last =
      λ more so well.
      let last = along (done ++ p ∷ []) rest more so well (λ q h. are q (later p rest q h)) in
      (last.0, subst (λ (ps : List Put). IsChainOf roster slots ps last.0) (assoc done (p ∷ []) rest) last.1) in
      elim (decide_certificate roster p.bytes (are p (here p rest))) [
        | inr none ↦ next chain (other p of (λ c is. none (c, is))) hangs
        | inl c ↦ elim (decide_follow chain hangs c.0.body) [
          | inl can ↦ next (record chain { held = with_held c.0.body chain.held }) (held p c.0 of c.1 can) (hangs_on chain hangs c.0 c.1.certificate.signed.within.after can)
          | inr not_so ↦ next chain (refused p c.0 of c.1 not_so) hangs
        ]
      ]

  pub chain_exists : (puts : List Put) → All (λ p. IsBytes p.bytes) puts → (chain : ChainView) × IsChainOf roster slots puts chain
  chain_exists puts are = along [] puts (record { slots = slots; held = [] }) empty (record {
    before = λ b h. absurd (nothing b h);
    one = λ b c h g e. absurd (nothing b h);
    layouts = λ b h. absurd (nothing b h);
  }) (λ p h. All-contains (λ (q : Put). IsBytes q.bytes) puts p are h)

  -- ---- and one

  no_end : (qs : List Put) (p : Put) → [] ≡ qs ++ p ∷ [] → ⊥
  no_end [] p e = absurd cc
  no_end (q ∷ qs) p e = absurd cc

  same_end : (xs ys : List Put) (p q : Put) → xs ++ p ∷ [] ≡ ys ++ q ∷ [] → (xs ≡ ys) × (p ≡ q)
  same_end [] [] p q e = (refl, first e) where
    first : p ∷ [] ≡ q ∷ [] → p ≡ q
    first e = cc
  same_end [] (y ∷ ys) p q e = absurd (no_end ys q (rest e)) where
    rest : p ∷ [] ≡ y ∷ (ys ++ q ∷ []) → [] ≡ ys ++ q ∷ []
    rest e = cc
  same_end (x ∷ xs) [] p q e = absurd (no_end xs p (rest e)) where
    rest : x ∷ (xs ++ p ∷ []) ≡ q ∷ [] → [] ≡ xs ++ p ∷ []
    rest e = cc
  same_end (x ∷ xs) (y ∷ ys) p q e =
      let heads : x ≡ y = first (xs ++ p ∷ []) (ys ++ q ∷ []) e in
      let both = same_end xs ys p q (rest (xs ++ p ∷ []) (ys ++ q ∷ []) e) in
      ((λ t. heads t ∷ both.0 t), both.1) where
        first : (a b : List Put) → x ∷ a ≡ y ∷ b → x ≡ y
        first a b e = cc

        rest : (a b : List Put) → x ∷ a ≡ y ∷ b → a ≡ b
        rest a b e = cc

  same_certificate : (x y : List ℕ) (c d : CertificateView) → x ≡ y → IsCertificateOf roster x c → IsCertificateOf roster y d → c ≡ d
  same_certificate x y c d same ic id =
      let one : payloads.Certificate c.body ic.certificate.signatures ≡ payloads.Certificate d.body id.certificate.signatures =
      payload_once (payloads.Certificate c.body ic.certificate.signatures) (payloads.Certificate d.body id.certificate.signatures)
      ic.certificate.signed.fits id.certificate.signed.fits (sym ic.certificate.spelled ∙ ic.spelled ∙ same ∙ sym id.spelled ∙ id.certificate.spelled) in
      let body : c.body ≡ d.body = body_of c.body d.body ic.certificate.signatures id.certificate.signatures one in
      let digest = ic.under.digest ∙ sym id.under.digest in
      let clients = ic.under.clients ∙ sym id.under.clients in
      let keys = ic.under.keys ∙ sym id.under.keys in
      let bytes = ic.spelled ∙ same ∙ sym id.spelled in
      (λ t. record { digest = digest t; clients = clients t; keys = keys t; body = body t; bytes = bytes t }) where
        body_of : (b e : Body) (s t : List (List ℕ)) → payloads.Certificate b s ≡ payloads.Certificate e t → b ≡ e
        body_of b e s t eq = cc

  one_chain : (ps qs : List Put) (a b : ChainView) → ps ≡ qs → IsChainOf roster slots ps a → IsChainOf roster slots qs b → a ≡ b
  one_chain ps qs a b e empty empty = refl
  one_chain ps qs a b e empty (held {puts = ys} {chain = bh} q d bx di dc) = absurd (no_end ys q e)
  one_chain ps qs a b e empty (refused {puts = ys} {chain = bh} q d bx di dc) = absurd (no_end ys q e)
  one_chain ps qs a b e empty (other {puts = ys} {chain = bh} q bx dn) = absurd (no_end ys q e)
  one_chain ps qs a b e (held {puts = xs} {chain = ah} p c ax ci cc_) empty = absurd (no_end xs p (sym e))
  one_chain ps qs a b e (refused {puts = xs} {chain = ah} p c ax ci cn) empty = absurd (no_end xs p (sym e))
  one_chain ps qs a b e (other {puts = xs} {chain = ah} p ax cn) empty = absurd (no_end xs p (sym e))
  one_chain ps qs a b e (held {puts = xs} {chain = ah} p c ax ci can) (held {puts = ys} {chain = bh} q d bx di dan) =
      let ends = same_end xs ys p q e in
      let chains = one_chain xs ys ah bh ends.0 ax bx in
      let certificates = same_certificate p.bytes q.bytes c d (ap (λ (z : Put). z.bytes) ends.1) ci di in
      (λ t. record (chains t) { held = with_held (certificates t).body (chains t).held })
  one_chain ps qs a b e (held {puts = xs} {chain = ah} p c ax ci can) (refused {puts = ys} {chain = bh} q d bx di dn) =
      let ends = same_end xs ys p q e in
      let chains = one_chain xs ys ah bh ends.0 ax bx in
      let certificates = same_certificate p.bytes q.bytes c d (ap (λ (z : Put). z.bytes) ends.1) ci di in
      absurd (dn (subst (λ (z : CertificateView). CanFollow bh z.body) certificates (subst (λ (z : ChainView). CanFollow z c.body) chains can)))
  one_chain ps qs a b e (refused {puts = xs} {chain = ah} p c ax ci cn) (held {puts = ys} {chain = bh} q d bx di dan) =
      let ends = same_end xs ys p q e in
      let chains = one_chain xs ys ah bh ends.0 ax bx in
      let certificates = same_certificate p.bytes q.bytes c d (ap (λ (z : Put). z.bytes) ends.1) ci di in
      absurd (cn (subst (λ (z : CertificateView). CanFollow ah z.body) (sym certificates) (subst (λ (z : ChainView). CanFollow z d.body) (sym chains) dan)))
  one_chain ps qs a b e (refused {puts = xs} {chain = ah} p c ax ci cn) (refused {puts = ys} {chain = bh} q d bx di dn) =
      one_chain xs ys ah bh (same_end xs ys p q e).0 ax bx
  one_chain ps qs a b e (other {puts = xs} {chain = ah} p ax cn) (other {puts = ys} {chain = bh} q bx dn) =
      one_chain xs ys ah bh (same_end xs ys p q e).0 ax bx
  one_chain ps qs a b e (other {puts = xs} {chain = ah} p ax cn) (held {puts = ys} {chain = bh} q d bx di dan) =
      absurd (cn d (subst (λ (z : Put). IsCertificateOf roster z.bytes d) (sym (same_end xs ys p q e).1) di))
  one_chain ps qs a b e (other {puts = xs} {chain = ah} p ax cn) (refused {puts = ys} {chain = bh} q d bx di dn) =
      absurd (cn d (subst (λ (z : Put). IsCertificateOf roster z.bytes d) (sym (same_end xs ys p q e).1) di))
  one_chain ps qs a b e (held {puts = xs} {chain = ah} p c ax ci can) (other {puts = ys} {chain = bh} q bx dn) =
      absurd (dn c (subst (λ (z : Put). IsCertificateOf roster z.bytes c) (same_end xs ys p q e).1 ci))
  one_chain ps qs a b e (refused {puts = xs} {chain = ah} p c ax ci cn) (other {puts = ys} {chain = bh} q bx dn) =
      absurd (dn c (subst (λ (z : Put). IsCertificateOf roster z.bytes c) (same_end xs ys p q e).1 ci))

  pub chain_is_one : (puts : List Put) (a b : ChainView) → IsChainOf roster slots puts a → IsChainOf roster slots puts b → a ≡ b
  chain_is_one puts a b x y = one_chain puts puts a b refl x y
