use Rattle.std.proofs.Common.{◌≡◌, ◌≢◌, ℕ, length, subst, sym, ap, ◌∙◌, true}
use Rattle.std.specs.Prelude.{Contains}
use Rattle.dn_client.specs.declared.answering.AnswerFault.TheVariants as refusals
use Rattle.dn_client.specs.Client.{ClientView}
use Rattle.dn_client.specs.Inside.{view_of}
use Rattle.dn_client.specs.Answering.{HasAnswered, IsOwnBit, IsUnanswered, IsChallenged, IsChallengedBy, IsFirstFalse, ShowsTrue, shown_sum}
use Rattle.dn_client.proofs.Listing.{ascends_of}
use Rattle.dn_client.proofs.Challenges.{Tells, asked, misshapen, beq_same, beq_differs}
use Rattle.dn_client.proofs.client.Client.false_server.Goals as goal

pub names-requires : goal.names-requires
names-requires c = ascends_of c.self.inside.chain c.in-Some.body.now c.self.invariant.client.chain c.in-Some.ensures.body.0

pub returns-then-not-is_opened-clause-refused : goal.returns-then-not-is_opened-clause-refused
returns-then-not-is_opened-clause-refused c =
    let v = view_of c.self.inside in
    let ch = c.args.c.now in
    let b = c.in-Some.body.now in
    let is = c.self.invariant.client in
    let named = c.names.ensures.0 c.if-not-names.false in
    let tells = subst (λ w. Tells w ch b c.is_opened.result) (sym c.self.view_is) c.is_opened.ensures in (
      λ e. absurd cc,
      subst (λ w. IsUnanswered w ch refusals.Shape) c.self.view_is
          (c.if-self.false, misshapen v ch b c.is_opened.result is c.in-Some.ensures.body named tells c.if-not-is_opened.true),
    )

pub returns-then-is_among-clause-refused : goal.returns-then-is_among-clause-refused
returns-then-is_among-clause-refused c =
    let v = view_of c.self.inside in
    let ch = c.args.c.now in
    let b = c.in-Some.body.now in
    let is = c.self.invariant.client in
    let named = c.names.ensures.0 c.if-not-names.false in
    let tells = subst (λ w. Tells w ch b c.is_opened.result) (sym c.self.view_is) c.is_opened.ensures in
    let asks = asked v ch b c.is_opened.result is c.in-Some.ensures.body named tells c.if-not-is_opened.false in (
      λ e. absurd cc,
      subst (λ w. IsUnanswered w ch refusals.Answered) c.self.view_is
          (c.if-self.false, asks, subst (λ l. Contains l record { r = ch.r; k = ch.k }) c.deref.ensures.value (c.is_among.ensures.0 c.if-is_among.true)),
    )

pub returns-then-shown_sum-own_bit-clause-refused : goal.returns-then-shown_sum-own_bit-clause-refused
returns-then-shown_sum-own_bit-clause-refused c =
    let v = view_of c.self.inside in
    let ch = c.args.c.now in
    let b = c.in-Some.body.now in
    let is = c.self.invariant.client in
    let named = c.names.ensures.0 c.if-not-names.false in
    let tells = subst (λ w. Tells w ch b c.is_opened.result) (sym c.self.view_is) c.is_opened.ensures in
    let asks = asked v ch b c.is_opened.result is c.in-Some.ensures.body named tells c.if-not-is_opened.false in
    let fresh : HasAnswered v ch → ⊥ = λ a. let so : c.is_among.result ≡ true = c.is_among.ensures.1 (subst (λ l. Contains l record { r = ch.r; k = ch.k }) (sym c.deref.ensures.value) a) in absurd cc in
    let sum_is : c.shown_sum.result ≡ shown_sum ch.shown.items c.self.inside.me = c.shown_sum.ensures ∙ ap (λ l. shown_sum l c.self.inside.me) c.deref-2.ensures.value in
    let own = subst (λ (w : ClientView). IsOwnBit w ch.r ch.k c.own_bit.result) (sym c.self.view_is) c.own_bit.ensures in
    let same : c.own_bit.result ≡ c.shown_sum.result = sym (beq_same c.shown_sum.result c.own_bit.result c.if-shown_sum-own_bit.true) in (
      λ e. absurd cc,
      subst (λ w. IsUnanswered w ch refusals.NotChallenged) c.self.view_is
          (c.if-self.false, asks, fresh, subst (λ t. IsOwnBit v ch.r ch.k t) (same ∙ sum_is) own),
    )

pub first_false-requires : goal.first_false-requires
first_false-requires c =
    let v = view_of c.self.inside in
    let ch = c.args.c.now in
    let b = c.in-Some.body.now in
    let is = c.self.invariant.client in
    let named = c.names.ensures.0 c.if-not-names.false in
    let tells = subst (λ w. Tells w ch b c.is_opened.result) (sym c.self.view_is) c.is_opened.ensures in
    let asks = asked v ch b c.is_opened.result is c.in-Some.ensures.body named tells c.if-not-is_opened.false in
    ap length c.deref-3.ensures.value ∙ asks.opened.1.count ∙ sym (ap length c.deref-4.ensures.value)

pub returns-in-Some-first_false-clause-server : goal.returns-in-Some-first_false-clause-server
returns-in-Some-first_false-clause-server c =
    let v = view_of c.self.inside in
    let ch = c.args.c.now in
    let b = c.in-Some.body.now in
    let is = c.self.invariant.client in
    let named = c.names.ensures.0 c.if-not-names.false in
    let tells = subst (λ w. Tells w ch b c.is_opened.result) (sym c.self.view_is) c.is_opened.ensures in
    let asks = asked v ch b c.is_opened.result is c.in-Some.ensures.body named tells c.if-not-is_opened.false in
    let fresh : HasAnswered v ch → ⊥ = λ a. let so : c.is_among.result ≡ true = c.is_among.ensures.1 (subst (λ l. Contains l record { r = ch.r; k = ch.k }) (sym c.deref.ensures.value) a) in absurd cc in
    let sum_is : c.shown_sum.result ≡ shown_sum ch.shown.items c.self.inside.me = c.shown_sum.ensures ∙ ap (λ l. shown_sum l c.self.inside.me) c.deref-2.ensures.value in
    let own = subst (λ (w : ClientView). IsOwnBit w ch.r ch.k c.own_bit.result) (sym c.self.view_is) c.own_bit.ensures in
    let differs : c.shown_sum.result ≢ c.own_bit.result = beq_differs c.shown_sum.result c.own_bit.result c.if-shown_sum-own_bit.false in
    let challenged : IsChallenged v ch = record { left = c.if-self.false; asked = asks; first = fresh; differs = (c.own_bit.result, own, λ e. differs (sum_is ∙ e)) } in
    subst (λ w. IsChallengedBy w ch c.in-Some-first_false.server) c.self.view_is (
      challenged,
      subst (λ l. IsFirstFalse l c.self.inside.seeds.items c.self.inside.me ch.r ch.k c.in-Some-first_false.server) c.deref-3.ensures.value
          (subst (λ l. IsFirstFalse c.deref-3.result.now l c.self.inside.me ch.r ch.k c.in-Some-first_false.server) c.deref-4.ensures.value c.in-Some-first_false.ensures),
    )

pub returns-in-None-clause-refused : goal.returns-in-None-clause-refused
returns-in-None-clause-refused c =
    let v = view_of c.self.inside in
    let ch = c.args.c.now in
    let b = c.in-Some.body.now in
    let is = c.self.invariant.client in
    let named = c.names.ensures.0 c.if-not-names.false in
    let tells = subst (λ w. Tells w ch b c.is_opened.result) (sym c.self.view_is) c.is_opened.ensures in
    let asks = asked v ch b c.is_opened.result is c.in-Some.ensures.body named tells c.if-not-is_opened.false in
    let fresh : HasAnswered v ch → ⊥ = λ a. let so : c.is_among.result ≡ true = c.is_among.ensures.1 (subst (λ l. Contains l record { r = ch.r; k = ch.k }) (sym c.deref.ensures.value) a) in absurd cc in
    let sum_is : c.shown_sum.result ≡ shown_sum ch.shown.items c.self.inside.me = c.shown_sum.ensures ∙ ap (λ l. shown_sum l c.self.inside.me) c.deref-2.ensures.value in
    let own = subst (λ (w : ClientView). IsOwnBit w ch.r ch.k c.own_bit.result) (sym c.self.view_is) c.own_bit.ensures in
    let differs : c.shown_sum.result ≢ c.own_bit.result = beq_differs c.shown_sum.result c.own_bit.result c.if-shown_sum-own_bit.false in
    let challenged : IsChallenged v ch = record { left = c.if-self.false; asked = asks; first = fresh; differs = (c.own_bit.result, own, λ e. differs (sum_is ∙ e)) } in (
      λ e. absurd cc,
      subst (λ w. IsUnanswered w ch refusals.AllTrue) c.self.view_is (
        challenged,
        subst (λ l. (j : ℕ) → ShowsTrue l c.self.inside.seeds.items c.self.inside.me ch.r ch.k j) c.deref-3.ensures.value
            (subst (λ l. (j : ℕ) → ShowsTrue c.deref-3.result.now l c.self.inside.me ch.r ch.k j) c.deref-4.ensures.value c.in-None.ensures),
      ),
    )
