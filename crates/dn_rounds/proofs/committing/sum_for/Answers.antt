use Rattle.std.proofs.Common.{◌≡◌, ◌∙◌, ◌++◌, map, ap, subst, sym}
use Rattle.std.specs.Prelude.{All}
use Rattle.dn_bits.specs.Bits.{sum_bits}
use Rattle.dn_cert.specs.Trim.{given_to}
use Rattle.dn_combine.specs.Parts.{pads_of}
use Rattle.dn_combine.proofs.Sums.{Long}
use Rattle.dn_record_types.specs.declared.shown.ShownCipher.{ShownCipher}
use Rattle.dn_server.specs.declared.run.Sum.{Sum}
use Rattle.dn_server.specs.Justified.{AreOfRows, AreIncluded}
use Rattle.dn_server.specs.Server.{WasIncluded, course_of}
use Rattle.dn_rounds.specs.Going.{turned, IsSum}
use Rattle.dn_server.specs.Parts.{live}
use Rattle.dn_rounds.proofs.SumLemmas.{ciphers_long, seeds_of, string_is, sum_long}
use Rattle.dn_rounds.proofs.committing.sum_for.Goals as goal

pub server_sum-requires-clause-long : goal.server_sum-requires-clause-long
server_sum-requires-clause-long g c κs within =
    let run = c.args.parts.now.run in
    let own = c.in_ok-own.own.items in
    let items = c.deref-6.ensures.value ∙ c.in_ok-held.ensures ∙ ap (map (λ (s : ShownCipher). s.cipher)) c.deref-4.ensures.value in
    subst (All (Long run.bits)) (sym items) (ciphers_long (course_of run) _ own c.in_ok-own.ensures.rows)

pub returns-clause-sum : goal.returns-clause-sum
returns-clause-sum g c =
    let p = c.args.parts.now in
    let v = live p in
    let course = course_of p.run in
    let listed = c.args.listed.items in
    let own = c.in_ok-own.own.items in
    let to_own : given_to c.deref.result.now c.number.result.0 ≡ given_to listed p.identity.number =
    ap (λ l. given_to l c.number.result.0) c.deref.ensures.value ∙ ap (given_to listed) c.number.ensures in
    let rows = subst (λ l. AreOfRows course l own) to_own c.in_ok-own.ensures.rows in
    let told = subst (λ l. AreIncluded (WasIncluded p.run) course l own) to_own c.in_ok-own.ensures.told in
    let seeds : c.deref-5.result.now ≡ seeds_of p.seeds.items listed =
    c.deref-5.ensures.value ∙ c.in_ok-seeds.ensures ∙ ap (λ x. seeds_of x c.deref-3.result.now) c.deref-2.ensures.value ∙ ap (seeds_of p.seeds.items) c.deref-3.ensures.value in
    let held : c.deref-6.result.now ≡ map (λ (s : ShownCipher). s.cipher) own =
    c.deref-6.ensures.value ∙ c.in_ok-held.ensures ∙ ap (map (λ (s : ShownCipher). s.cipher)) c.deref-4.ensures.value in
    let s = c.in_ok-s.ensures
    ∙ ap (λ x. sum_bits course.bits (pads_of x course.r.0 course.bits ++ c.deref-6.result.now)) seeds
    ∙ ap (λ x. sum_bits course.bits (pads_of (seeds_of p.seeds.items listed) course.r.0 course.bits ++ x)) held
    ∙ string_is v.seat course listed own in
    let made : Sum = record { listed = listed; s = c.turn.result; own = own } in
    let is : IsSum v made = record { rows = rows; told = told; value = c.turn.ensures ∙ ap (turned p.bend) s } in
    subst (IsSum v) (λ i. record { listed = sym c.of.ensures i; s = c.turn.result; own = sym c.of-2.ensures i }) is

pub returns-clause-long : goal.returns-clause-long
returns-clause-long g c =
    sum_long (live c.args.parts.now) (record { listed = c.of.result; s = c.turn.result; own = c.of-2.result }) (returns-clause-sum g c)
