-- The run's chain holds each certified body, in a run whose audit is clean.
use Rattle.std.proofs.Common.{◌≡◌, ◌≢◌, ℕ, zero, suc, ◌<◌, List, [], ◌∷◌, ◌++◌, length, refl, sym, ap, subst, ◌∙◌, arith, inl, inr, Bool, true, false, cond}
use Rattle.std.specs.Prelude.{Contains, Some, replicate, slice_get, ◌⊎◌}
use Rattle.std.proofs.lemmas.Bool.{cases_eq}
use Rattle.std.proofs.lemmas.Option.{slice_get_within, same_Some}
use Rattle.std.proofs.lemmas.List.Elements.{All-contains}
use Rattle.dn_wire.specs.declared.ids.Round.{Round}
use Rattle.dn_wire.specs.declared.ids.SignerId.TheVariants.{Server}
use Rattle.dn_record_types.specs.declared.body.Body.{Body}
use Rattle.dn_record_types.specs.declared.statement.Statement.TheVariants as kinds
use Rattle.dn_record_types.specs.declared.payload.Payload.TheVariants as payloads
use Rattle.dn_record_types.proofs.RecordLaws.{payload_once}
use Rattle.dn_bits.proofs.BitLemmas.{length-sum_all}
use Rattle.dn_layout.specs.Layout.{bits_of}
use Rattle.dn_cert.specs.Floor.{is_due_thin}
use Rattle.dn_cert.specs.Certificate.{CertificateView}
use Rattle.dn_cert.specs.Chain.{ChainView, bodies, LayoutAfter, IsLayoutAfter, CanFollow, layout_after, count_at, with_held}
use Rattle.dn_cert.specs.Chain.LayoutAfter.{at_first, after_prev}
use Rattle.dn_cert.proofs.ChainLemmas.{round_is, layout_stays}
use Rattle.dn_cert.proofs.GrowthLemmas.{held_stays, held_comes, held_only}
use Rattle.dn_cert.proofs.Orders.{here, later, nothing, first_or_later, All-from_contains}
use Rattle.dn_server.specs.Justified.{IsEnding}
use Rattle.dn_headline.specs.Group.{clients_of}
use Rattle.dn_headline.specs.Log.{Put}
use Rattle.dn_headline.specs.Run.{RunView, log}
use Rattle.dn_headline.specs.Spoken.{WasSaid, HadSigned}
use Rattle.dn_headline.specs.Certified.{IsCertificateOf, IsCertified, IsCertifiedAt, IsLayoutOf, IsChainOf}
use Rattle.dn_headline.specs.Certified.IsChainOf.{empty, held, refused, other}
use Rattle.dn_headline.specs.Clean.{Clean}
use Rattle.dn_headline.specs.Headline.{CertifiedAreInChain}
use Rattle.dn_headline.specs.Invariant.{Facts, Invariant, IsJustified, WasIncluded, seat_of, course_of}
use Rattle.dn_headline.proofs.Signing.{place_in, server_key, certificate_has_signature, one_body_lem}
use Rattle.dn_headline.proofs.Listing.{certified_is_justified, contains_place}
use Rattle.dn_headline.proofs.Counts.{AreSingle, counts_are_one}
use Rattle.dn_headline.proofs.Layouts.{certified_within, held_single, layouts_are_one, justified_layout}

-- whether a round is held
pub decide_held : (bs : List Body) (r : ℕ) → ((b : Body) × Contains bs b × (b.r.0 ≡ r)) ⊎ ((b : Body) → Contains bs b → b.r.0 ≢ r)
decide_held [] r = inr (λ b h e. nothing b h)
decide_held (b ∷ bs) r =
    elim (cases_eq b.r.0 r) [
      | inl e ↦ inl (b, here b bs, e)
      | inr ne ↦ elim (decide_held bs r) [
        | inl h ↦ inl (h.0, later b bs h.0 h.1, h.2)
        | inr none ↦ inr (λ x h e. elim (first_or_later b bs x h) [
          | inl is ↦ ne (ap (λ (x : Body). x.r.0) is ∙ e)
          | inr behind ↦ none x behind e
        ])
      ]
    ]

-- what the run's chain keeps: its bodies are certified, and each has a layout
record Follows (w : RunView) (chain : ChainView) : Type 0 where
  slots : chain.slots ≡ clients_of w.group
  certified : (b : Body) → Contains (bodies chain) b → IsCertified w b
  layouts : (b : Body) → Contains (bodies chain) b → (layout : List ℕ) × IsLayoutAfter chain b.r.0 layout

append_nil : {A : Type 0} (xs : List A) → xs ++ [] ≡ xs
append_nil [] = refl
append_nil (x ∷ xs) = ap (λ ys. x ∷ ys) (append_nil xs)

append_assoc : {A : Type 0} (xs ys zs : List A) → (xs ++ ys) ++ zs ≡ xs ++ (ys ++ zs)
append_assoc [] ys zs = refl
append_assoc (x ∷ xs) ys zs = ap (λ ws. x ∷ ws) (append_assoc xs ys zs)

middle : {A : Type 0} (xs ys : List A) (x : A) → slice_get (xs ++ x ∷ ys) (length xs) ≡ Some x
middle [] ys x = refl
middle (z ∷ xs) ys x = middle xs ys x

at_end : {A : Type 0} (xs ys : List A) (x : A) (m : ℕ) (y : A) → m < length (xs ++ x ∷ []) → slice_get (xs ++ x ∷ ys) m ≡ Some y → (m < length xs) ⊎ ((m ≡ length xs) × (x ≡ y))
at_end [] ys x zero y lt at = inr (refl, same_Some x y at)
at_end [] ys x (suc m) y lt at = absurd (omega arith)
at_end (z ∷ xs) ys x zero y lt at = inl (omega arith)
at_end (z ∷ xs) ys x (suc m) y lt at = elim (at_end xs ys x m y (omega arith) at) [ inl less ↦ inl (omega arith) | inr is ↦ inr (ap suc is.0, is.1) ]

module _ (w : RunView) (f : Facts) (inv : Invariant w f) (clean : Clean w) where
  one_of_round : (b c : Body) → IsCertified w b → IsCertified w c → b.r.0 ≡ c.r.0 → b ≡ c
  one_of_round b c cb cc' e = one_body_lem w f inv clean b c cb cc' (round_is b.r c.r e)

  follows_single : (chain : ChainView) → Follows w chain → AreSingle (bodies chain)
  follows_single chain follows = record {
    none_first = λ b h e. let after = (certified_within w b (follows.certified b h)).after in omega (arith, after, e);
    one_each = λ b c hb hc e. one_of_round b c (follows.certified b hb) (follows.certified c hc) e;
  }

  prev_layout : (chain : ChainView) (b : Body) → Follows w chain → (b.prev.0 ≡ 0) ⊎ ((c : Body) × Contains (bodies chain) c × (c.r ≡ b.prev))
      → (layout : List ℕ) × IsLayoutAfter chain b.prev.0 layout
  prev_layout chain b follows prev =
      elim prev [
        | inl z ↦ (replicate chain.slots 0, at_first z refl)
        | inr c ↦
            let l = follows.layouts c.0 c.1 in
            (l.0, subst (λ (r : ℕ). IsLayoutAfter chain r l.0) (ap (λ (r : Round). r.0) c.2) l.1)
      ]

  -- the count of prev is the one by which a server justified the body
  last_is : (chain : ChainView) (b : Body) (layout : List ℕ) → IsJustified w f clean.honest.0 b → Follows w chain → IsLayoutAfter chain b.prev.0 layout
      → count_at (f.server clean.honest.0).chain b.prev.0 ≡ count_at chain b.prev.0
  last_is chain b layout just follows after =
      let own = (f.server clean.honest.0).chain in
      let held = inv.held_is_put.servers clean.honest.0 clean.honest.1 in
      let certified : (e : Body) → Contains (bodies own) e → IsCertified w e = λ e h. All-contains (IsCertified w) (bodies own) e held.certified h in
      counts_are_one own chain b.prev.0 just.layout layout (held_single w own held) (follows_single chain follows)
      (λ x y hx hy e. one_of_round x y (certified x hx) (follows.certified y hy) e) just.after after

  -- the output of a justified body is as long as is due
  ending_long : (t : Bool) (b : Body) (just : IsJustified w f clean.honest.0 b)
      → IsEnding (WasSaid w) (WasIncluded w clean.honest.0) t (seat_of w.group clean.honest.0) (course_of b (bits_of just.layout)) b
      → length b.out ≡ cond t 0 (bits_of just.layout)
  ending_long true b just o = ap length o.out
  ending_long false b just o = ap length o.sum ∙ length-sum_all (bits_of just.layout) o.strings o.long

  certified_at : (m : ℕ) (b : Body) → IsCertifiedAt w m b → IsCertified w b
  certified_at m b at = record { put = at.put; there = contains_place (log w).puts m at.put at.there; certificate = at.certificate; is = at.is; body = at.body }

  same_certificate : (x y : List ℕ) (c d : CertificateView) → x ≡ y → IsCertificateOf w.group.roster x c → IsCertificateOf w.group.roster y d → c.body ≡ d.body
  same_certificate x y c d same ic id =
      let one : payloads.Certificate c.body ic.certificate.signatures ≡ payloads.Certificate d.body id.certificate.signatures =
      payload_once (payloads.Certificate c.body ic.certificate.signatures) (payloads.Certificate d.body id.certificate.signatures)
      ic.certificate.signed.fits id.certificate.signed.fits (sym ic.certificate.spelled ∙ ic.spelled ∙ same ∙ sym id.spelled ∙ id.certificate.spelled) in
      cc

  -- the certificate of a body's prev was put before that of the body
  prev_so_far : (m : ℕ) (b : Body) {P : Body → Type 0} → IsCertifiedAt w m b → ((k : ℕ) (x : Body) → k < m → IsCertifiedAt w k x → P x)
      → (b.prev.0 ≡ 0) ⊎ ((c : Body) × P c × (c.r ≡ b.prev))
  prev_so_far m b {P} at so_far =
      let j = clean.honest.0 in
      let honest = clean.honest.1 in
      let has = certificate_has_signature w.group.roster at.put.bytes at.certificate at.is j honest.server in
      let had : HadSigned w m (Server j) (kinds.Sign b) =
      subst (λ (x : Body). HadSigned w m (Server j) (kinds.Sign x)) at.body
      (clean.signed m at.put (Server j) (kinds.Sign at.certificate.body) at.there (server_key w j honest) has) in
      elim (inv.rounds.prev_before j m b honest had) [
        | inl z ↦ inl z
        | inr c ↦ inr (c.1, so_far c.0 c.1 c.2 c.3, c.4)
      ]

  -- a certified body whose prev is in the chain, and whose round isn't, can follow
  can_follow : (chain : ChainView) (b : Body) → Follows w chain → IsCertified w b → ((x : Body) → Contains (bodies chain) x → x.r.0 ≢ b.r.0)
      → (b.prev.0 ≡ 0) ⊎ ((c : Body) × Contains (bodies chain) c × (c.r ≡ b.prev)) → CanFollow chain b
  can_follow chain b follows cert new prev =
      let j = clean.honest.0 in
      let honest = clean.honest.1 in
      let just = certified_is_justified w f inv clean b j honest cert in
      let before = prev_layout chain b follows prev in
      let in_run : IsLayoutOf w b.prev.0 before.0 = record {
        bodies = bodies chain;
        certified = All-from_contains (IsCertified w) (bodies chain) follows.certified;
        after = subst (λ (n : ℕ). LayoutAfter n (bodies chain) b.prev.0 before.0) follows.slots before.1;
      } in
      let same = layouts_are_one w (one_body_lem w f inv clean) b.prev.0 just.layout before.0 (justified_layout w f inv clean b j honest just) in_run in
      record {
        new = λ h. new h.0 h.1 h.2;
        layout = before.0;
        after = before.1;
        floor = just.floor ∙ ap (is_due_thin b.version (length b.listed)) (last_is chain b before.0 just follows before.1);
        long = ending_long b.thin b just just.ending ∙ (λ i. cond b.thin 0 (bits_of (same i)));
      }

  -- what was put up to a place, the chain of it holds
  holds_so_far : (puts : List Put) (chain : ChainView) → IsChainOf w.group.roster (clients_of w.group) puts chain → (rest : List Put) → (log w).puts ≡ puts ++ rest
      → Follows w chain × ((m : ℕ) (b : Body) → m < length puts → IsCertifiedAt w m b → Contains (bodies chain) b)
  holds_so_far puts chain empty rest e = (
    record { slots = refl; certified = λ b h. absurd (nothing b h); layouts = λ b h. absurd (nothing b h) },
    λ m b lt c. absurd (omega arith),
  )
  holds_so_far puts chain (held {puts = qs} {chain = ch} p c before is can) rest e =
      let all : (log w).puts ≡ qs ++ (p ∷ rest) = e ∙ append_assoc qs (p ∷ []) rest in
      let so_far = holds_so_far qs ch before (p ∷ rest) all in
      let old = so_far.0 in
      let at_p : slice_get (log w).puts (length qs) ≡ Some p = ap (λ (ps : List Put). slice_get ps (length qs)) all ∙ middle qs rest p in
      let cert : IsCertified w c.body = record { put = p; there = contains_place (log w).puts (length qs) p at_p; certificate = c; is = is; body = refl } in
      let grows : (b : Body) → Contains (bodies ch) b → Contains (bodies (record ch { held = with_held c.body ch.held })) b = λ b h. held_stays c.body ch.held b h in (
        record {
          slots = old.slots;
          certified = λ b h. elim (held_only c.body ch.held b h) [ inl is_c ↦ subst (IsCertified w) is_c cert | inr was ↦ old.certified b was ];
          layouts = λ b h. elim (held_only c.body ch.held b h) [
            | inl is_c ↦ subst (λ (x : Body). (layout : List ℕ) × IsLayoutAfter (record ch { held = with_held c.body ch.held }) x.r.0 layout) is_c (
              layout_after can.layout c.body,
              after_prev c.body can.layout (held_comes c.body ch.held) refl
                  (layout_stays ch.slots (bodies ch) (bodies (record ch { held = with_held c.body ch.held })) grows c.body.prev.0 can.layout can.after) refl,
            )
            | inr was ↦ let l = old.layouts b was in
                (l.0, layout_stays ch.slots (bodies ch) (bodies (record ch { held = with_held c.body ch.held })) grows b.r.0 l.0 l.1)
          ];
        },
        λ m b lt at. elim (at_end qs rest p m at.put lt (ap (λ (ps : List Put). slice_get ps m) (sym all) ∙ at.there)) [
          | inl less ↦ grows b (so_far.1 m b less at)
          | inr here_ ↦ subst (λ (x : Body). Contains (bodies (record ch { held = with_held c.body ch.held })) x)
              (same_certificate p.bytes at.put.bytes c at.certificate (ap (λ (q : Put). q.bytes) here_.1) is at.is ∙ at.body) (held_comes c.body ch.held)
        ],
      )
  holds_so_far puts chain (refused {puts = qs} {chain = ch} p c before is not_so) rest e =
      let all : (log w).puts ≡ qs ++ (p ∷ rest) = e ∙ append_assoc qs (p ∷ []) rest in
      let so_far = holds_so_far qs ch before (p ∷ rest) all in (
        so_far.0,
        λ m b lt at. elim (at_end qs rest p m at.put lt (ap (λ (ps : List Put). slice_get ps m) (sym all) ∙ at.there)) [
          | inl less ↦ so_far.1 m b less at
          | inr here_ ↦
              let body_is = same_certificate p.bytes at.put.bytes c at.certificate (ap (λ (q : Put). q.bytes) here_.1) is at.is ∙ at.body in
              let cert = certified_at m b at in
              elim (decide_held (bodies ch) b.r.0) [
                | inl had ↦ subst (λ (x : Body). Contains (bodies ch) x) (one_of_round had.0 b (so_far.0.certified had.0 had.1) cert had.2) had.1
                | inr none ↦ absurd (not_so (subst (CanFollow ch) (sym body_is) (can_follow ch b so_far.0 cert none (prev_so_far m b at (λ k x less there.
                    so_far.1 k x (omega (arith, here_.0)) there)))))
              ]
        ],
      )
  holds_so_far puts chain (other {puts = qs} {chain = ch} p before none) rest e =
      let all : (log w).puts ≡ qs ++ (p ∷ rest) = e ∙ append_assoc qs (p ∷ []) rest in
      let so_far = holds_so_far qs ch before (p ∷ rest) all in (
        so_far.0,
        λ m b lt at. elim (at_end qs rest p m at.put lt (ap (λ (ps : List Put). slice_get ps m) (sym all) ∙ at.there)) [
          | inl less ↦ so_far.1 m b less at
          | inr here_ ↦ absurd (none at.certificate (subst (λ (q : Put). IsCertificateOf w.group.roster q.bytes at.certificate) (sym here_.1) at.is))
        ],
      )

  pub certified_are_in_chain_lem : CertifiedAreInChain w
  certified_are_in_chain_lem chain b run cert =
      let at = place_in (log w).puts cert.put cert.there in
      (holds_so_far (log w).puts chain run [] (sym (append_nil (log w).puts))).1 at.0 b (slice_get_within (log w).puts at.0 cert.put at.1)
      (record { put = cert.put; there = at.1; certificate = cert.certificate; is = cert.is; body = cert.body })
