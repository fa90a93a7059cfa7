use Rattle.std.proofs.Common.{[], get_or, refl, sym}
use Rattle.std.proofs.lemmas.List.{append-nil}
use Rattle.dn_server.specs.Parts.{live}
use Rattle.dn_openings.specs.Challenging.{none}
use Rattle.dn_openings.proofs.HearLemmas.{looks_more, can_look_on}
use Rattle.dn_openings.proofs.hearing.look_at_all.Goals as goal

pub loop-k-init : goal.loop-k-init
loop-k-init g c = (([], sym (append-nil c.args.acts.now.items), none refl refl refl), (λ place can. can))

pub loop-k-preserved : goal.loop-k-preserved
loop-k-preserved g c =
    let numbers = c.args.numbers.now in
    let i = c.loop-k.k-index in
    let looked = c.in_ok-look_at.ensures in (
      looks_more (live c.args.parts.now) (live c.loop-k.parts) (live c.look_at.new.parts) c.args.r numbers i (get_or numbers i 0)
          c.args.acts.now.items c.loop-k.acts.items c.look_at.new.acts.items c.loop-k-test.true refl c.loop-k.invariant.0 looked,
      (λ place can. can_look_on (live c.loop-k.parts) record { r = c.args.r; k = get_or numbers i 0 } looked.0 (live c.look_at.new.parts) looked.2 place (c.loop-k.invariant.1 place can)),
    )
