use Rattle.std.proofs.Common.{◌≡◌, sym, ap, ◌∙◌}
use Rattle.std.specs.Option.{option_copied}
use Rattle.dn_trace.specs.Trial.{round_of}
use Rattle.dn_record_types.specs.declared.statement.Statement.TheVariants as kinds
use Rattle.dn_trace.proofs.HeardLemmas.{found_shown}
use Rattle.dn_trace.proofs.own_faults.first_string.Goals as goal

pub returns : goal.returns
returns c =
    let trial = c.args.case.now in
    let find_is = sym c.first_shown.ensures ∙ ap option_copied c.in-Some.is in
    let of = found_shown trial c.args.j.0 c.in-Some.first.now find_is in
    let one : kinds.Shown (round_of trial) of.0 of.1 ≡ kinds.Shown c.in-Shown.r c.in-Shown.s c.in-Shown.shown = sym of.2 ∙ sym c.statement.ensures.value ∙ c.in-Shown.is in
    let s_is : of.0 ≡ c.in-Shown.s = cc in
    record { said = c.in-Some.first.now; first = find_is; shown = of.1; is = of.2 ∙ ap (λ x. kinds.Shown (round_of trial) x of.1) s_is }
