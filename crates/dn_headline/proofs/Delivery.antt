-- A round whose messages all arrived at honest servers ends with a certificate at each of them.
use Rattle.std.proofs.Common.{◌≡◌, ℕ, ◌<◌, [], length, get_or, refl, sym, ap, subst, ◌∙◌, inl, inr, Bool}
use Rattle.std.specs.Prelude.{◌⊎◌}
use Rattle.std.proofs.lemmas.Bool.{cases_eq}
use Rattle.std.proofs.lemmas.Option.{slice_get-get_or, slice_get_within}
use Rattle.std.proofs.lemmas.List.Elements.{All-contains}
use Rattle.dn_wire.specs.declared.ids.ServerId.{ServerId}
use Rattle.dn_wire.specs.declared.ids.Round.{Round}
use Rattle.dn_wire.specs.declared.ids.SignerId.TheVariants.{Server}
use Rattle.dn_bits.specs.Bits.{bytes_of}
use Rattle.dn_hash.specs.Digests.{server_digest_of}
use Rattle.dn_record_types.specs.Place.{commit_of}
use Rattle.dn_record_types.specs.declared.body.Body.{Body}
use Rattle.dn_record_types.specs.declared.inventory.Inventory.{Inventory}
use Rattle.dn_record_types.specs.declared.statement.Statement.{Statement}
use Rattle.dn_record_types.specs.declared.statement.Statement.TheVariants as kinds
use Rattle.dn_record_types.specs.declared.payload.Payload.TheVariants as payloads
use Rattle.dn_layout.specs.Layout.{bits_of}
use Rattle.dn_cert.specs.Chain.{bodies}
use Rattle.dn_cert.proofs.ChainLemmas.{round_is}
use Rattle.dn_server.specs.Justified.{IsOutput, IsEnding}
use Rattle.dn_report.specs.declared.outcome.Outcome.TheVariants as outcomes
use Rattle.dn_headline.specs.Group.{IsServer}
use Rattle.dn_headline.specs.Run.{RunView, Happened}
use Rattle.dn_headline.specs.Spoken.{WasSaid}
use Rattle.dn_headline.specs.Certified.{IsCertified, IsLayoutOf}
use Rattle.dn_headline.specs.Signatures.SealedIn.{itself}
use Rattle.dn_headline.specs.Signatures.SignedIn.{plain}
use Rattle.dn_headline.specs.Clean.{Clean}
use Rattle.dn_headline.specs.Delivered.{IsPhaseOf, IsPhaseMessage, HasCertificate, IsFullyDelivered}
use Rattle.dn_headline.specs.Headline.{DeliveredAreCertified}
use Rattle.dn_headline.specs.Invariant.{Facts, Invariant, IsJustified, WasIncluded, FitsReveal, IsFull, SpoilCause, Runs, Signs, Keeps, KeepsAll, HasSigned, IsInventory, IsCommit, IsReveal, IsSign, seat_of, course_of}
use Rattle.dn_headline.specs.Invariant.SpoilCause.{by_twice, by_prev, by_entry, by_length, by_commit, by_forgery, by_body}
use Rattle.dn_headline.specs.Invariant.EndOf.{certified, given_up, spoiled_by, going_on}
use Rattle.dn_headline.proofs.Signing.{server_key, signs_said, signs_certified, one_body_lem}
use Rattle.dn_headline.proofs.Listing.{certified_is_justified, said_inventory_fits, inventory_of}
use Rattle.dn_headline.proofs.Layouts.{layout_in_run, layouts_are_one}
use Rattle.dn_headline.proofs.Agreement.{said_once, full_for_all, bodies_are_one}

-- who said something is a server of the group
pub said_by_server : (w : RunView) (x : ServerId) (s : Statement) → WasSaid w (Server x) s → IsServer w.group x
said_by_server w x s said = slice_get_within w.group.roster.servers x.0 said.says.unseals.key said.says.unseals.known

module _ (w : RunView) (f : Facts) (inv : Invariant w f) (clean : Clean w) (r : Round) (d : IsFullyDelivered w r) where
  signed : (x : ServerId) (s : Statement) → IsServer w.group x → WasSaid w (Server x) s → Signs f x s
  signed x s server said = signs_said w f inv clean x s (d.honest x server) said

  prev_is : (x : ServerId) (p : Round) → IsServer w.group x → Happened w (outcomes.Opened x r p) → p ≡ d.prev
  prev_is x p server opened = inv.rounds.opened_once x r p d.prev (d.honest x server) opened (d.opened x server)

  inventory_prev : (x : ServerId) (v : Inventory) → IsServer w.group x → WasSaid w (Server x) (kinds.Inventory v) → v.r ≡ r → v.prev ≡ d.prev
  inventory_prev x v server said round =
      prev_is x v.prev server (subst (λ (q : Round). Happened w (outcomes.Opened x q v.prev)) round (said_inventory_fits w f inv clean x v (d.honest x server) said).opened)

  body_prev : (x : ServerId) (b : Body) → IsServer w.group x → IsJustified w f x b → b.r ≡ r → b.prev ≡ d.prev
  body_prev x b server just round =
      let of = inventory_of w f b x just x server in
      sym of.prev ∙ inventory_prev x of.inventory server of.said (of.round ∙ round)

  signed_justified : (x : ServerId) (b : Body) → IsServer w.group x → Signs f x (kinds.Sign b) → IsJustified w f x b
  signed_justified x b server s = inv.servers.fit x (kinds.Sign b) (d.honest x server) s

  one_for_both : (x y : ServerId) (b e : Body) → IsServer w.group x → IsServer w.group y → IsJustified w f x b → IsJustified w f y e → b.r ≡ r → e.r ≡ r → b ≡ e
  one_for_both x y b e sx sy jb je rb re =
      bodies_are_one w f inv clean d.honest x y b e sx sy jb je (rb ∙ sym re) (body_prev x b sx jb rb ∙ sym (body_prev y e sy je re))

  -- nobody's statement spoils the round
  not_spoiled : (x y : ServerId) → IsServer w.group x → SpoilCause w f x r y → ⊥
  not_spoiled x y sx (by_twice place s t ss st ps pt differ) = differ (said_once w f inv clean d.honest y place s t (said_by_server w y s ss) ss st ps pt)
  not_spoiled x y sx (by_prev v p said round opened differ) =
      differ (inventory_prev y v (said_by_server w y (kinds.Inventory v) said) said round ∙ sym (prev_is x p sx opened))
  not_spoiled x y sx (by_entry v said not) =
      not (said_inventory_fits w f inv clean y v (d.honest y (said_by_server w y (kinds.Inventory v) said)) said).verify
  not_spoiled x y sx (by_length sum p layout said opened after differ) =
      let sy = said_by_server w y (kinds.Reveal r sum) said in
      let fits : FitsReveal w f y r sum = inv.servers.fit y (kinds.Reveal r sum) (d.honest y sy) (signed y (kinds.Reveal r sum) sy said) in
      let here = layout_in_run w (f.server x).chain p.0 layout (inv.held_is_put.servers x (d.honest x sx)) after in
      let there = layout_in_run w (f.server y).chain fits.prev.0 fits.layout (inv.held_is_put.servers y (d.honest y sy)) fits.after in
      let same = prev_is x p sx opened ∙ sym (prev_is y fits.prev sy fits.opened) in
      differ (fits.long ∙ sym (ap bits_of (layouts_are_one w (one_body_lem w f inv clean) fits.prev.0 layout fits.layout
      (subst (λ (q : Round). IsLayoutOf w q.0 layout) same here) there)))
  not_spoiled x y sx (by_commit sum digest revealed committed differ) =
      let sy = said_by_server w y (kinds.Reveal r sum) revealed in
      let due = server_digest_of r.0 y.0 (bytes_of sum) in
      let fits : FitsReveal w f y r sum = inv.servers.fit y (kinds.Reveal r sum) (d.honest y sy) (signed y (kinds.Reveal r sum) sy revealed) in
      let one : kinds.Commit r due ≡ kinds.Commit r digest =
      inv.servers.one_each y (d.honest y sy) (commit_of r) (kinds.Commit r due) (kinds.Commit r digest) fits.committed (signed y (kinds.Commit r digest) sy committed) refl refl in
      differ cc
  not_spoiled x y sx (by_forgery n put s itself_ there says not) =
      not (clean.signed n put (Server x) s there (server_key w x (d.honest x sx))
      (record { payload = payloads.Plain says.envelope; is = says.is; signed = plain says.envelope (itself says.unseals) }))
  not_spoiled x y sx (by_body own other round other_round just said differ) =
      let sy = said_by_server w y (kinds.Sign other) said in
      differ (one_for_both y x other own sy sx (signed_justified y other sy (signed y (kinds.Sign other) sy said)) just other_round round)

  -- each server holds a certificate, or runs the round
  fate : (x : ServerId) → IsServer w.group x → HasCertificate w x r ⊎ Runs f x r
  fate x server =
      elim (inv.rounds.ends x r d.prev (d.honest x server) (d.opened x server)) [
        | certified h ↦ inl h
        | given_up h ↦ absurd (d.kept_on x server h)
        | spoiled_by y reason h ↦ absurd (not_spoiled x y server (inv.rounds.spoiled x y r reason (d.honest x server) h))
        | going_on h ↦ inr h
      ]

  -- the body of a certificate
  certificate_body : (x : ServerId) → IsServer w.group x → HasCertificate w x r → (b : Body) × IsCertified w b × (b.r ≡ r)
  certificate_body x server h =
      let honest = d.honest x server in
      let holds = inv.rounds.certificates x r honest h in
      (holds.0, All-contains (IsCertified w) (bodies (f.server x).chain) holds.0 (inv.held_is_put.servers x honest).certified holds.1, round_is holds.0.r r holds.2)

  sign_from_certificate : (x y : ServerId) → IsServer w.group x → IsServer w.group y → HasCertificate w x r → HasSigned f y (IsSign r)
  sign_from_certificate x y sx sy h =
      let b = certificate_body x sx h in
      (kinds.Sign b.0, signs_certified w f inv clean b.0 y (d.honest y sy) b.1, (b.0, refl, b.2))

  -- ---- inventories

  inventory_from_certificate : (x : ServerId) → IsServer w.group x → HasCertificate w x r → HasSigned f x (IsInventory r)
  inventory_from_certificate x server h =
      let b = certificate_body x server h in
      let just = certified_is_justified w f inv clean b.0 x (d.honest x server) b.1 in
      let of = inventory_of w f b.0 x just x server in
      (kinds.Inventory of.inventory, signed x (kinds.Inventory of.inventory) server of.said, (of.inventory, refl, of.round ∙ b.2))

  inventory_signed : (x : ServerId) → IsServer w.group x → HasSigned f x (IsInventory r)
  inventory_signed x server =
      elim (fate x server) [
        | inl done ↦ inventory_from_certificate x server done
        | inr runs ↦ elim (d.over x server) [
          | inl closed ↦ (inv.rounds.gone_on x r (d.honest x server) runs).inventory closed.0 closed.1
          | inr other ↦ elim other [
            | inl spoiled ↦ absurd (not_spoiled x spoiled.0 server (inv.rounds.spoiled x spoiled.0 r spoiled.1 (d.honest x server) spoiled.2))
            | inr held ↦ inventory_from_certificate x server (inr held)
          ]
        ]
      ]

  -- ---- what a server that runs the round keeps

  keeps_from : (a x : ServerId) (s : Statement) → IsServer w.group a → IsServer w.group x → Runs f a r → IsPhaseOf r s → Signs f x s → Keeps f a x s
  keeps_from a x s sa sx runs phase says =
      elim (cases_eq x.0 a.0) [
        | inl e ↦
            let same : x ≡ a = λ i. record { 0 = e i } in
            subst (λ (z : ServerId). Keeps f a z s) (sym same)
            ((inv.rounds.gone_on a r (d.honest a sa) runs).own_kept s (subst (λ (z : ServerId). Signs f z s) same says) phase)
        | inr ne ↦
            let sent = inv.messages.sent x a r s (d.honest x sx) (d.honest a sa) ne phase says in
            let m = sent.0 in
            let carries = sent.1 in
            let of_phase : IsPhaseMessage w r m = record {
              from = x;
              to = a;
              sender = carries.from;
              receiver = carries.to;
              own = carries.own;
              statement = s;
              says = carries.says;
              phase = phase;
            } in
            elim sent.2 [
              | inl delivered ↦ inv.messages.kept x a r s m (d.honest a sa) phase carries delivered runs
              | inr rest ↦ elim rest [
                | inl lost ↦ absurd (d.not_lost m lost of_phase)
                | inr flies ↦ absurd (d.arrived flies.0 flies.1 (subst (IsPhaseMessage w r) (sym flies.2) of_phase))
              ]
            ]
      ]

  keeps_all : (a : ServerId) (Is : Statement → Type 0) → IsServer w.group a → Runs f a r → ((s : Statement) → Is s → IsPhaseOf r s)
      → ((x : ServerId) → IsServer w.group x → HasSigned f x Is) → KeepsAll w f a Is
  keeps_all a Is sa runs phase each x server =
      let h = each x server in
      (h.0, keeps_from a x h.0 sa server runs (phase h.0 h.2) h.1, h.2)

  inventory_phase : (s : Statement) → IsInventory r s → IsPhaseOf r s
  inventory_phase s h = subst (IsPhaseOf r) (sym h.1) h.2

  commit_phase : (s : Statement) → IsCommit r s → IsPhaseOf r s
  commit_phase s h = subst (IsPhaseOf r) (sym h.1) refl

  reveal_phase : (s : Statement) → IsReveal r s → IsPhaseOf r s
  reveal_phase s h = subst (IsPhaseOf r) (sym h.1) refl

  sign_phase : (s : Statement) → IsSign r s → IsPhaseOf r s
  sign_phase s h = subst (IsPhaseOf r) (sym h.1) h.2

  commit_or_sign : (x : ServerId) → IsServer w.group x → HasSigned f x (IsCommit r) ⊎ HasSigned f x (IsSign r)
  commit_or_sign x server =
      elim (fate x server) [
        | inl done ↦ inr (sign_from_certificate x x server server done)
        | inr runs ↦ (inv.rounds.gone_on x r (d.honest x server) runs).commit (inventory_signed x server)
            (keeps_all x (IsInventory r) server runs inventory_phase inventory_signed)
      ]

  -- ---- a round with data

  module _ (y : ServerId) (sy : IsServer w.group y) (full : IsFull w f y r) where
    output_of : (x : ServerId) → IsServer w.group x → HasSigned f x (IsSign r)
        → (b : Body) × (just : IsJustified w f x b) × (b.r ≡ r) × IsOutput (WasSaid w) (WasIncluded w x) (seat_of w.group x) (course_of b (bits_of just.layout)) b
    output_of x server h =
        let b = h.2.0 in
        let just = signed_justified x b server (subst (λ (s : Statement). Signs f x s) h.2.1 h.1) in
        let prev = body_prev x b server just h.2.2 ∙ sym (prev_is y full.prev sy full.opened) in
        let flag = full_for_all w f inv clean d.honest x y b r server sy just full h.2.2 prev in
        (b, just, h.2.2, subst (λ (t : Bool). IsEnding (WasSaid w) (WasIncluded w x) t (seat_of w.group x) (course_of b (bits_of just.layout)) b) flag just.ending)

    commit_from_sign : (x : ServerId) → IsServer w.group x → HasSigned f x (IsSign r) → HasSigned f x (IsCommit r)
    commit_from_sign x server h =
        let of = output_of x server h in
        let out = of.3 in
        let s = get_or out.strings x.0 [] in
        let within : x.0 < length out.strings = subst (λ (n : ℕ). x.0 < n) (sym out.each) server in
        let said = out.committed x.0 s (slice_get-get_or out.strings x.0 [] within) in
        let round = of.2 in
        let digest = server_digest_of of.0.r.0 x.0 (bytes_of s) in
        (kinds.Commit of.0.r digest, signed x (kinds.Commit of.0.r digest) server said, (digest, λ i. kinds.Commit (round i) digest))

    reveal_from_sign : (x : ServerId) → IsServer w.group x → HasSigned f x (IsSign r) → HasSigned f x (IsReveal r)
    reveal_from_sign x server h =
        let of = output_of x server h in
        let out = of.3 in
        let s = get_or out.strings x.0 [] in
        let within : x.0 < length out.strings = subst (λ (n : ℕ). x.0 < n) (sym out.each) server in
        let said = out.revealed x.0 s (slice_get-get_or out.strings x.0 [] within) in
        let round = of.2 in
        (kinds.Reveal of.0.r s, signed x (kinds.Reveal of.0.r s) server said, (s, λ i. kinds.Reveal (round i) s))

    commit_signed : (x : ServerId) → IsServer w.group x → HasSigned f x (IsCommit r)
    commit_signed x server = elim (commit_or_sign x server) [ inl commit ↦ commit | inr sign ↦ commit_from_sign x server sign ]

    reveal_signed : (x : ServerId) → IsServer w.group x → HasSigned f x (IsReveal r)
    reveal_signed x server =
        elim (fate x server) [
          | inl done ↦ reveal_from_sign x server (sign_from_certificate x x server server done)
          | inr runs ↦ (inv.rounds.gone_on x r (d.honest x server) runs).reveal (commit_signed x server)
              (keeps_all x (IsCommit r) server runs commit_phase commit_signed)
        ]

    full_sign_signed : (x : ServerId) → IsServer w.group x → HasSigned f x (IsSign r)
    full_sign_signed x server =
        elim (fate x server) [
          | inl done ↦ sign_from_certificate x x server server done
          | inr runs ↦ (inv.rounds.gone_on x r (d.honest x server) runs).sign (reveal_signed x server)
              (keeps_all x (IsReveal r) server runs reveal_phase reveal_signed)
        ]

  -- ---- bodies

  commit_is_full : (x : ServerId) → IsServer w.group x → HasSigned f x (IsCommit r) → IsFull w f x r
  commit_is_full x server h =
      inv.servers.fit x (kinds.Commit r h.2.0) (d.honest x server) (subst (λ (s : Statement). Signs f x s) h.2.1 h.1)

  sign_signed : (x : ServerId) → IsServer w.group x → HasSigned f x (IsSign r)
  sign_signed x server =
      elim (commit_or_sign x server) [
        | inl commit ↦ full_sign_signed x server (commit_is_full x server commit) x server
        | inr sign ↦ sign
      ]

  running_ends : (a : ServerId) → IsServer w.group a → Runs f a r → ⊥
  running_ends a server runs =
      let own = sign_signed a server in
      let b = own.2.0 in
      let says = subst (λ (s : Statement). Signs f a s) own.2.1 own.1 in
      (inv.rounds.gone_on a r (d.honest a server) runs).goes_on b own.2.2 says (λ x sx.
      let h = sign_signed x sx in
      let e = h.2.0 in
      let says_e = subst (λ (s : Statement). Signs f x s) h.2.1 h.1 in
      let one = one_for_both x a e b sx server (signed_justified x e sx says_e) (signed_justified a b server says) h.2.2 own.2.2 in
      subst (λ (z : Body). Keeps f a x (kinds.Sign z)) one (keeps_from a x (kinds.Sign e) server sx runs h.2.2 says_e))

  certified_at : (a : ServerId) → IsServer w.group a → HasCertificate w a r
  certified_at a server = elim (fate a server) [ inl done ↦ done | inr runs ↦ absurd (running_ends a server runs) ]

pub delivered_are_certified_lem : (w : RunView) (f : Facts) → Invariant w f → Clean w → DeliveredAreCertified w
delivered_are_certified_lem w f inv clean r j full server = certified_at w f inv clean r full j server
