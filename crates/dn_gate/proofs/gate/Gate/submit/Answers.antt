use Rattle.std.proofs.Common.{arith, ℕ, List, refl, sym, ap, subst, ◌∙◌, ◌≡◌, ◌++◌, ◌∷◌, [], Some, None}
use Rattle.dn_gate.specs.Draws.{Draw}
use Rattle.dn_gate.specs.Pass.{included, came_late, PassView}
use Rattle.dn_gate.proofs.gate.Gate.submit.Goals as goal

-- the pass after its claim and an included draw, and after it came late
drawn : {T : Type 0} (p q r : PassView T) (i place : ℕ) → q ≡ record p { claim = Some i; held = (i, None) ∷ [] } → r ≡ record q { claim = None; unmarked = Some i; draws = q.draws ++ included place i ∷ [] }
    → r ≡ record p { claim = None; unmarked = Some i; held = (i, None) ∷ []; draws = p.draws ++ included place i ∷ [] }
drawn {T} p q r i place e d = d ∙ ap (λ (x : PassView T). record x { claim = None; unmarked = Some i; draws = x.draws ++ included place i ∷ [] }) e

late : {T : Type 0} (p q r : PassView T) (i seen : ℕ) → q ≡ record p { claim = Some i; held = (i, None) ∷ [] } → r ≡ record q { claim = None; draws = q.draws ++ came_late i seen ∷ []; held = [] }
    → r ≡ record p { claim = None; draws = p.draws ++ came_late i seen ∷ []; held = [] }
late {T} p q r i seen e d = d ∙ ap (λ (x : PassView T). record x { claim = None; draws = x.draws ++ came_late i seen ∷ []; held = [] }) e

marked : {T : Type 0} (p r s m : PassView T) (i place : ℕ) (x : T) → r ≡ record p { claim = None; unmarked = Some i; held = (i, None) ∷ []; draws = p.draws ++ included place i ∷ [] } → s ≡ record r { held = (i, Some x) ∷ [] }
    → m ≡ record s { unmarked = None; held = []; values = s.values ++ (i, x) ∷ [] }
    → m ≡ record p { claim = None; unmarked = None; held = []; draws = p.draws ++ included place i ∷ []; values = p.values ++ (i, x) ∷ [] }
marked {T} p r s m i place x e d f = f ∙ ap (λ (y : PassView T). record y { unmarked = None; held = []; values = y.values ++ (i, x) ∷ [] }) (d ∙ ap (λ (y : PassView T). record y { held = (i, Some x) ∷ [] }) e)

-- a pass that isn't in mid-call has no claim, nothing unmarked and no slot
unmarked_again : {T : Type 0} (p q : PassView T) (ds : List Draw) (vs : List (ℕ × T)) → p.claim ≡ None → p.unmarked ≡ None → p.held ≡ []
    → q ≡ record p { claim = None; unmarked = None; held = []; draws = ds; values = vs } → q ≡ record p { draws = ds; values = vs }
unmarked_again p q ds vs a b h e = e ∙ (λ i. record p { claim = sym a i; unmarked = sym b i; held = sym h i; draws = ds; values = vs })

late_again : {T : Type 0} (p q : PassView T) (ds : List Draw) → p.claim ≡ None → p.held ≡ [] → q ≡ record p { claim = None; draws = ds; held = [] } → q ≡ record p { draws = ds }
late_again p q ds a h e = e ∙ (λ i. record p { claim = sym a i; draws = ds; held = sym h i })

pub deposit-requires-clause-gate : goal.deposit-requires-clause-gate
deposit-requires-clause-gate g c = ap (λ p. p.gate) (drawn c.args.pass.now c.claim.new.pass c.draw.new.pass c.args.client.0 c.in-Included.place c.if-not-claim.ensures.claimed (c.in-Included.ensures.included c.in-Included.place refl).2) ∙ c.requires.gate.0

pub deposit-requires-clause-drawn : goal.deposit-requires-clause-drawn
deposit-requires-clause-drawn g c = let e = drawn c.args.pass.now c.claim.new.pass c.draw.new.pass c.args.client.0 c.in-Included.place c.if-not-claim.ensures.claimed (c.in-Included.ensures.included c.in-Included.place refl).2 in (ap (λ p. p.unmarked) e, ap (λ p. p.held) e)

pub mark-requires-clause-gate : goal.mark-requires-clause-gate
mark-requires-clause-gate g c =
    let e = drawn c.args.pass.now c.claim.new.pass c.draw.new.pass c.args.client.0 c.in-Included.place c.if-not-claim.ensures.claimed (c.in-Included.ensures.included c.in-Included.place refl).2 in
    (ap (λ p. p.gate) c.deposit.ensures.deposited ∙ ap (λ p. p.gate) e ∙ c.requires.gate.0, c.requires.gate.1)

pub mark-requires-clause-deposited : goal.mark-requires-clause-deposited
mark-requires-clause-deposited g c =
    let e = drawn c.args.pass.now c.claim.new.pass c.draw.new.pass c.args.client.0 c.in-Included.place c.if-not-claim.ensures.claimed (c.in-Included.ensures.included c.in-Included.place refl).2 in
    (ap (λ p. p.unmarked) c.deposit.ensures.deposited ∙ ap (λ p. p.unmarked) e, (c.args.value, ap (λ p. p.held) c.deposit.ensures.deposited))

pub returns-in-Included-clause-pass : goal.returns-in-Included-clause-pass
returns-in-Included-clause-pass g c =
    let e = drawn c.args.pass.now c.claim.new.pass c.draw.new.pass c.args.client.0 c.in-Included.place c.if-not-claim.ensures.claimed (c.in-Included.ensures.included c.in-Included.place refl).2 in
    let m = marked c.args.pass.now c.draw.new.pass c.deposit.new.pass c.mark.new.pass c.args.client.0 c.in-Included.place c.args.value e c.deposit.ensures.deposited (c.mark.ensures.marked c.args.value (ap (λ p. p.held) c.deposit.ensures.deposited)) in
    ((ap (λ p. p.gate) m, ap (λ p. p.seat) m, ap (λ p. p.numbers) m, ap (λ p. p.looked) m, ap (λ p. p.taken) m), (ap (λ p. p.claim) m, ap (λ p. p.unmarked) m), ap (λ p. p.closing) m, ap (λ p. p.refused) m)

pub returns-in-Included-clause-included : goal.returns-in-Included-clause-included
returns-in-Included-clause-included g c = λ place is.
    let told = c.in-Included.ensures.included c.in-Included.place refl in
    let e = drawn c.args.pass.now c.claim.new.pass c.draw.new.pass c.args.client.0 c.in-Included.place c.if-not-claim.ensures.claimed told.2 in
    let m = marked c.args.pass.now c.draw.new.pass c.deposit.new.pass c.mark.new.pass c.args.client.0 c.in-Included.place c.args.value e c.deposit.ensures.deposited (c.mark.ensures.marked c.args.value (ap (λ p. p.held) c.deposit.ensures.deposited)) in
    let same : c.in-Included.place ≡ place = cc in
    let p = c.args.pass.now in
    let again = unmarked_again p c.mark.new.pass (p.draws ++ included c.in-Included.place c.args.client.0 ∷ []) (p.values ++ (c.args.client.0, c.args.value) ∷ []) c.requires.ready.0 c.requires.ready.1 c.if-not-claim.ensures.empty m in (
      omega (arith, told.0, same),
      sym (ap (λ p. p.closing) c.if-not-claim.ensures.claimed) ∙ told.1,
      subst (λ (n : ℕ). c.mark.new.pass ≡ record p { draws = p.draws ++ included n c.args.client.0 ∷ []; values = p.values ++ (c.args.client.0, c.args.value) ∷ [] }) same again,
    )

pub returns-in-Late-clause-pass : goal.returns-in-Late-clause-pass
returns-in-Late-clause-pass g c =
    let m = late c.args.pass.now c.claim.new.pass c.draw.new.pass c.args.client.0 c.in-Late.seen c.if-not-claim.ensures.claimed (c.in-Late.ensures.late c.in-Late.seen refl).1 in
    ((ap (λ p. p.gate) m, ap (λ p. p.seat) m, ap (λ p. p.numbers) m, ap (λ p. p.looked) m, ap (λ p. p.taken) m), (ap (λ p. p.claim) m, ap (λ p. p.unmarked) m ∙ c.requires.ready.1), ap (λ p. p.closing) m, ap (λ p. p.refused) m)

pub returns-in-Late-clause-late : goal.returns-in-Late-clause-late
returns-in-Late-clause-late g c = λ seen back is.
    let told = c.in-Late.ensures.late c.in-Late.seen refl in
    let m = late c.args.pass.now c.claim.new.pass c.draw.new.pass c.args.client.0 c.in-Late.seen c.if-not-claim.ensures.claimed told.1 in
    let same : c.in-Late.seen ≡ seen = cc in
    let value : c.args.value ≡ back = cc in
    let p = c.args.pass.now in
    let again = late_again p c.draw.new.pass (p.draws ++ came_late c.args.client.0 c.in-Late.seen ∷ []) c.requires.ready.0 c.if-not-claim.ensures.empty m in
    (sym value, omega (arith, told.0, same), subst (λ (n : ℕ). c.draw.new.pass ≡ record p { draws = p.draws ++ came_late c.args.client.0 n ∷ [] }) same again)
