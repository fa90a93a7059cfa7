use Rattle.std.proofs.Common.{◌≡◌, sym, ap, subst, ◌∙◌, refl, true, false}
use Rattle.dn_client.specs.Client.{ClientView, IsClient}
use Rattle.dn_client.specs.Accusing.{IsWithin, HasBits, text_bit}
use Rattle.dn_client.proofs.Listing.{ascends_of}
use Rattle.dn_client.proofs.Jams.{IsBodyAt, elsewhere, has_bits, own_text_is, spared}
use Rattle.dn_client.proofs.client.Client.denial.Goals as goal

pub own_text-requires : goal.own_text-requires
own_text-requires c = ascends_of c.self.inside.chain c.in-Some.body.now c.self.invariant.client.chain c.in-Some.ensures.body.0

pub returns-then-not-is_within : goal.returns-then-not-is_within
returns-then-not-is_within c =
    let v = c.args.self.now in
    let b = c.in-Some.body.now in
    let is = subst IsClient c.self.view_is c.self.invariant.client in
    let there = subst (λ w. IsBodyAt w c.args.r b) c.self.view_is c.in-Some.ensures.body in
    let left : v.left ≡ false = sym (ap (λ (w : ClientView). w.left) c.self.view_is) ∙ c.if-self.false in (
      λ e. absurd cc,
      (
        left,
        refl,
        elsewhere v c.args.r b c.range_in.result c.args.k is there c.range_in.ensures
            (λ h. let so : c.is_within.result ≡ true = c.is_within.ensures.1 h in absurd cc),
      ),
    )

pub returns-then-is_kept : goal.returns-then-is_kept
returns-then-is_kept c =
    let v = c.args.self.now in
    let b = c.in-Some.body.now in
    let is = subst IsClient c.self.view_is c.self.invariant.client in
    let there = subst (λ w. IsBodyAt w c.args.r b) c.self.view_is c.in-Some.ensures.body in
    let left : v.left ≡ false = sym (ap (λ (w : ClientView). w.left) c.self.view_is) ∙ c.if-self.false in
    let own = c.own_text.result in
    let mine = own_text_is v b own c.own_text.ensures.some c.own_text.ensures.none in
    let in_range : IsWithin c.range_in.result c.args.k = c.is_within.ensures.0 c.if-not-is_within.false in
    let has = subst (λ t. HasBits v c.args.r c.args.k t c.get_or_zero-out.result) (sym c.own_bit-own.ensures)
    (subst (λ t. HasBits v c.args.r c.args.k (text_bit own c.args.k) t) (sym c.get_or_zero-out.ensures)
    (has_bits v c.args.r b c.range_in.result own c.args.k is there c.range_in.ensures in_range mine)) in
    (λ e. absurd cc, (left, has, c.is_kept.ensures.0 c.if-is_kept.true))

pub returns-else-is_kept : goal.returns-else-is_kept
returns-else-is_kept c =
    let v = c.args.self.now in
    let b = c.in-Some.body.now in
    let is = subst IsClient c.self.view_is c.self.invariant.client in
    let there = subst (λ w. IsBodyAt w c.args.r b) c.self.view_is c.in-Some.ensures.body in
    let left : v.left ≡ false = sym (ap (λ (w : ClientView). w.left) c.self.view_is) ∙ c.if-self.false in
    let own = c.own_text.result in
    let mine = own_text_is v b own c.own_text.ensures.some c.own_text.ensures.none in
    let in_range : IsWithin c.range_in.result c.args.k = c.is_within.ensures.0 c.if-not-is_within.false in
    let has = subst (λ t. HasBits v c.args.r c.args.k t c.get_or_zero-out.result) (sym c.own_bit-own.ensures)
    (subst (λ t. HasBits v c.args.r c.args.k (text_bit own c.args.k) t) (sym c.get_or_zero-out.ensures)
    (has_bits v c.args.r b c.range_in.result own c.args.k is there c.range_in.ensures in_range mine)) in
    let both = spared c.own_bit-own.result c.get_or_zero-out.result (λ h. let so : c.is_kept.result ≡ true = c.is_kept.ensures.1 h in absurd cc) in
    (left, subst (λ t. HasBits v c.args.r c.args.k t true) both.0 (subst (λ t. HasBits v c.args.r c.args.k c.own_bit-own.result t) both.1 has))
