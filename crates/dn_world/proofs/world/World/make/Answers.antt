use Rattle.std.proofs.Common.{sym, ap, subst, ◌∙◌, false}
use Rattle.dn_state.specs.Beginning.{Begins}
use Rattle.dn_headline.specs.Group.{GroupView}
use Rattle.dn_steps.specs.Dealt.{IsDealtGroup}
use Rattle.dn_world.specs.Run.{WorldView}
use Rattle.dn_world.proofs.DealtGroup.{dealt_group}
use Rattle.dn_world.proofs.Keeping.{kept_as_made}
use Rattle.dn_world.proofs.world.World.make.Goals as goal

pub invariant_of-result : goal.invariant_of-result
invariant_of-result c =
    let dealt = c.args.dealt.now in
    let state = c.in_ok-make.field-0 in
    let named = c.in_ok-to_vec.ensures.items_if_clones_equal (λ x y h. h) in
    let v : WorldView = record { spec = dealt.spec; corrupt = c.in_ok-to_vec.field-0.items; roster = state.roster; history = c.new.result.items; spent = false } in
    let g : GroupView = record { roster = dealt.roster; seeds = dealt.seeds.items; owners = dealt.owners.items; masks = dealt.masks.items; corrupt = v.corrupt } in
    kept_as_made v dealt.owners.items c.args.workers g state
    (dealt_group dealt.spec dealt.roster dealt.owners.items dealt.client_keys.items dealt.server_keys.items dealt.slot_keys.items dealt.seeds.items dealt.masks.items
    v.corrupt dealt.dealt)
    (subst (λ ms. Begins dealt.spec dealt.roster dealt.owners.items ms c.args.workers state) (sym named) c.in_ok-make.ensures.begins)
    c.requires.some c.requires.few c.in_ok-make.ensures.roster c.new.ensures.items
