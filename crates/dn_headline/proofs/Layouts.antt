-- The layouts along certified bodies, in a run whose audit is clean.
use Rattle.std.proofs.Common.{◌≡◌, ℕ, ◌<◌, List, refl, sym, ap, subst, ◌∙◌, arith, Bool, false}
use Rattle.std.specs.Prelude.{length}
use Rattle.std.proofs.lemmas.List.Elements.{All-contains, All-weaker}
use Rattle.dn_wire.specs.declared.ids.ServerId.{ServerId}
use Rattle.dn_record_types.specs.declared.body.Body.{Body}
use Rattle.dn_layout.specs.Layout.{bits_of}
use Rattle.dn_cert.specs.Chain.{ChainView, bodies, LayoutAfter, IsLayoutAfter}
use Rattle.dn_cert.specs.Certificate.{IsInGroup}
use Rattle.dn_cert.proofs.ChainLemmas.{layouts_agree}
use Rattle.dn_server.specs.Justified.{IsOutput, IsEnding}
use Rattle.dn_headline.specs.Group.{IsHonestServer, clients_of, servers_of}
use Rattle.dn_headline.specs.Run.{RunView}
use Rattle.dn_headline.specs.Spoken.{WasSaid}
use Rattle.dn_headline.specs.Certified.{IsCertified, IsLayoutOf, HasLength}
use Rattle.dn_headline.specs.Clean.{Clean}
use Rattle.dn_headline.specs.Headline.{OneBodyPerRound, LengthsAreSound}
use Rattle.dn_headline.specs.Invariant.{Facts, Invariant, IsJustified, WasIncluded, IsHeldChain, seat_of, course_of}
use Rattle.dn_headline.proofs.Signing.{one_body_lem}
use Rattle.dn_headline.proofs.Counts.{AreSingle}
use Rattle.dn_headline.proofs.Listing.{certified_is_justified}

-- a certified body is one of the group's
pub certified_within : (w : RunView) (b : Body) → IsCertified w b → IsInGroup w.group.roster.version (clients_of w.group) (servers_of w.group) b
certified_within w b c =
    let c_version = c.is.under.version in
    let clients = c.is.under.clients in
    let keys = c.is.under.keys in
    let body = c.body in
    subst (IsInGroup w.group.roster.version (clients_of w.group) (servers_of w.group)) body
    (subst (λ (v : ℕ). IsInGroup v (clients_of w.group) (servers_of w.group) c.certificate.body) c_version
    (subst (λ (n : ℕ). IsInGroup c.certificate.body.version n (servers_of w.group) c.certificate.body) clients
    (subst (λ (ks : List (List ℕ)). IsInGroup c.certificate.body.version c.certificate.clients (length ks) c.certificate.body) keys c.is.certificate.signed.within)))

-- a layout of a core's chain is one along certified bodies
pub layout_in_run : (w : RunView) (chain : ChainView) (r : ℕ) (layout : List ℕ) → IsHeldChain w chain → IsLayoutAfter chain r layout → IsLayoutOf w r layout
layout_in_run w chain r layout held after = record {
  bodies = bodies chain;
  certified = held.certified;
  after = subst (λ (n : ℕ). LayoutAfter n (bodies chain) r layout) held.slots after;
}

-- a held chain holds no body of round 0, and one of each round
pub held_single : (w : RunView) (chain : ChainView) → IsHeldChain w chain → AreSingle (bodies chain)
held_single w chain held = record {
  none_first = λ b has e.
      let after = (certified_within w b (All-contains (IsCertified w) (bodies chain) b held.certified has)).after in
      omega (arith, after, e);
  one_each = held.one_each;
}

module _ (w : RunView) (one : OneBodyPerRound w) where
  pub layouts_are_one : (r : ℕ) (l m : List ℕ) → IsLayoutOf w r l → IsLayoutOf w r m → l ≡ m
  layouts_are_one r l m x y =
      let before = λ (b : Body) (c : IsCertified w b). (certified_within w b c).after in
      layouts_agree (clients_of w.group) x.bodies y.bodies
      (All-weaker (IsCertified w) (λ b. b.prev.0 < b.r.0) before x.bodies x.certified)
      (All-weaker (IsCertified w) (λ b. b.prev.0 < b.r.0) before y.bodies y.certified)
      (λ b c inside within same. one b c (All-contains (IsCertified w) x.bodies b x.certified inside) (All-contains (IsCertified w) y.bodies c y.certified within) same)
      r l x.after m y.after

module _ (w : RunView) (f : Facts) (inv : Invariant w f) (clean : Clean w) where
  -- the layout by which a server justified a body is the body's
  pub justified_layout : (b : Body) (j : ServerId) → IsHonestServer w.group j → (just : IsJustified w f j b) → IsLayoutOf w b.prev.0 just.layout
  justified_layout b j honest just = layout_in_run w (f.server j).chain b.prev.0 just.layout (inv.held_is_put.servers j honest) just.after

  pub lengths_are_sound_lem : LengthsAreSound w
  lengths_are_sound_lem b c =
      let j = clean.honest.0 in
      let just = certified_is_justified w f inv clean b j clean.honest.1 c in
      let here : HasLength w b (bits_of just.layout) = record { layout = just.layout; after = justified_layout b j clean.honest.1 just; bits = refl } in
      let one : (n m : ℕ) → HasLength w b n → HasLength w b m → n ≡ m = λ n m x y.
      x.bits ∙ ap bits_of (layouts_are_one w (one_body_lem w f inv clean) b.prev.0 x.layout y.layout x.after y.after) ∙ sym y.bits in
      ((bits_of just.layout, here), one)

  -- a body that isn't thin has an output, by each honest server that justified it
  pub has_output : (b : Body) (n : ℕ) (j : ServerId) → b.thin ≡ false → HasLength w b n → IsHonestServer w.group j → IsJustified w f j b
      → IsOutput (WasSaid w) (WasIncluded w j) (seat_of w.group j) (course_of b n) b
  has_output b n j full long honest just =
      let same : n ≡ bits_of just.layout =
      long.bits ∙ ap bits_of (layouts_are_one w (one_body_lem w f inv clean) b.prev.0 long.layout just.layout long.after (justified_layout b j honest just)) in
      subst (λ (k : ℕ). IsOutput (WasSaid w) (WasIncluded w j) (seat_of w.group j) (course_of b k) b) (sym same)
      (subst (λ (t : Bool). IsEnding (WasSaid w) (WasIncluded w j) t (seat_of w.group j) (course_of b (bits_of just.layout)) b) full just.ending)
