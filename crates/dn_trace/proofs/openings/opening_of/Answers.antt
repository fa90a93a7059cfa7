use Rattle.std.proofs.Common.{◌≡◌, sym, ap, ◌∙◌, subst}
use Rattle.std.specs.Option.{option_copied}
use Rattle.dn_trace.specs.Trial.{round_of}
use Rattle.dn_trace.specs.Reasons.{IsFirstShown, Shows}
use Rattle.dn_record_types.specs.declared.statement.Statement.TheVariants as kinds
use Rattle.dn_trace.proofs.HeardLemmas.{nothing_shown, found_shown, first_shows}
use Rattle.dn_trace.proofs.openings.opening_of.Goals as goal

pub returns-in_default : goal.returns-in_default
returns-in_default c = λ opened.
    nothing_shown c.args.case.now c.args.j.0 (sym c.first_shown.ensures ∙ ap option_copied c.in_default.is) opened.s opened.shown opened.shows

pub returns-in_default-statement : goal.returns-in_default-statement
returns-in_default-statement c = λ opened.
    let trial = c.args.case.now in
    let of = found_shown trial c.args.j.0 c.in-Some.first.now (sym c.first_shown.ensures ∙ ap option_copied c.in-Some.is) in
    c.in_default-statement.not-Shown (round_of trial) of.0 of.1 (c.statement.ensures.value ∙ of.2)

pub returns-in_default-signed_pad : goal.returns-in_default-signed_pad
returns-in_default-signed_pad c = λ opened. c.in_default-signed_pad.ensures opened.pad opened.signed

pub returns : goal.returns
returns c =
    let trial = c.args.case.now in
    let j = c.args.j.0 in
    let find_is = sym c.first_shown.ensures ∙ ap option_copied c.in-Some.is in
    let of = found_shown trial j c.in-Some.first.now find_is in
    let one : kinds.Shown (round_of trial) of.0 of.1 ≡ kinds.Shown c.in-Shown.r c.in-Shown.s c.in-Shown.shown = sym of.2 ∙ sym c.statement.ensures.value ∙ c.in-Shown.is in
    let s_is : of.0 ≡ c.in-Shown.s = cc in
    let shown_is : of.1 ≡ c.in-Shown.shown = cc in
    let first : IsFirstShown trial j c.in-Shown.s = record {
      said = c.in-Some.first.now;
      first = find_is;
      shown = c.in-Shown.shown;
      is = of.2 ∙ (λ i. kinds.Shown (round_of trial) (s_is i) (shown_is i));
    } in
    record {
      first = first;
      shows = subst (Shows trial j c.in-Shown.s) (sym c.get.ensures) (first_shows trial j c.in-Shown.s first);
      signed = c.in-Some-signed_pad.ensures;
    }
