use Rattle.std.proofs.Common.{subst, refl}
use Rattle.dn_cert.specs.Chain.{IsHoldRefused}
use Rattle.dn_exchange.specs.Ending.HoldsOn.{is_known, has_no_prev, is_off_floor, is_of_other_length}
use Rattle.dn_exchange.proofs.ending.refused.Goals as goal

pub returns-in-Known : goal.returns-in-Known
returns-in-Known c = λ v x un. is_known c.in-Known.r (subst (IsHoldRefused v.chain x.body) c.in-Known.is un) refl refl

pub returns-in-NoPrev : goal.returns-in-NoPrev
returns-in-NoPrev c = λ v x un. has_no_prev c.in-NoPrev.prev (subst (IsHoldRefused v.chain x.body) c.in-NoPrev.is un) refl refl

pub returns-in-Floor : goal.returns-in-Floor
returns-in-Floor c = λ v x un. is_off_floor c.in-Floor.count c.in-Floor.last (subst (IsHoldRefused v.chain x.body) c.in-Floor.is un) refl refl

pub returns-in-Length : goal.returns-in-Length
returns-in-Length c = λ v x un. is_of_other_length c.in-Length.have c.in-Length.need (subst (IsHoldRefused v.chain x.body) c.in-Length.is un) refl refl
