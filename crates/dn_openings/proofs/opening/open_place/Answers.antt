use Rattle.std.proofs.Common.{◌≡◌, ◌<◌, ◌++◌, ◌∷◌, [], List, length, sym, ap, ◌∙◌, subst}
use Rattle.std.specs.Prelude.{Some}
use Rattle.dn_wire.specs.declared.ids.Round.{Round}
use Rattle.dn_record_types.specs.declared.body.Body.{Body}
use Rattle.dn_record_types.specs.declared.statement.Statement.{Statement}
use Rattle.dn_server.specs.declared.past.Past.{Past}
use Rattle.dn_server.specs.declared.places.Place.{Place}
use Rattle.dn_server.specs.Parts.{live}
use Rattle.dn_server.specs.Server.{ServerView, others_of, past_of, post_next}
use Rattle.dn_openings.specs.Challenging.{CanLook, LooksAt}
use Rattle.dn_openings.specs.Accusing.{HasSigned, SignsAndKeeps, pads_at, with_opened}
use Rattle.dn_openings.proofs.OpenLemmas.{signed_so, can_show, can_look_opened, leaves_second, one_within}
use Rattle.dn_openings.proofs.opening.open_place.Goals as goal

pub show-requires : goal.show-requires
show-requires g c =
    let v : ServerView = live c.args.parts.now in
    let can = c.requires.can in
    let given = c.requires.accepted in
    let b : Body = given.0 in
    let past : Past = given.1 in
    let signed : HasSigned v c.args.r b past = given.4.accused.body in
    let padded : ServerView = live c.sign_pads.new.parts in
    let signs : SignsAndKeeps v (pads_at v.seat b c.args.k) padded = c.in_ok-sign_pads.ensures.signed b signed.held signed.round in
    can_show v can c.args.r b past signed (pads_at v.seat b c.args.k) padded signs (leaves_second v c.args.r given.4.leaves)

pub look_at-requires : goal.look_at-requires
look_at-requires g c =
    let v : ServerView = live c.args.parts.now in
    let r = c.args.r in
    let k = c.args.k in
    let can = c.requires.can in
    let given = c.requires.accepted in
    let b : Body = given.0 in
    let past : Past = given.1 in
    let signed : HasSigned v r b past = given.4.accused.body in
    let padded : ServerView = live c.sign_pads.new.parts in
    let shown : ServerView = live c.show.new.parts in
    let s : Statement = pads_at v.seat b k in
    let signs : SignsAndKeeps v s padded = c.in_ok-sign_pads.ensures.signed b signed.held signed.round in
    let pasts : padded.pasts ≡ v.pasts = ap (λ (w : ServerView). w.pasts) (signed_so v s padded signs).is in
    let kept : past_of padded.pasts r.0 ≡ Some past = ap (λ l. past_of l r.0) pasts ∙ signed.kept in
    let shows = c.in_ok-show.ensures past kept in
    let within : k < length b.out = subst (λ n. n < length b.out) given.5 (one_within b.out given.3.k given.4.holds.one) in
    subst (λ (l : List Place). CanLook (record shown { opened = l }) record { r = r; k = k }) (sym c.in_ok-push.ensures)
    (can_look_opened v can r b past signed k given.4.holds.full within s padded shown shows.0 signs shows.2)

pub returns : goal.returns
returns g c = λ b past signed.
    let v : ServerView = live c.args.parts.now in
    let r = c.args.r in
    let k = c.args.k in
    let padded : ServerView = live c.sign_pads.new.parts in
    let shown : ServerView = live c.show.new.parts in
    let after : ServerView = live c.look_at.new.parts in
    let s : Statement = pads_at v.seat b k in
    let to = others_of v.seat in
    let signs : SignsAndKeeps v s padded = c.in_ok-sign_pads.ensures.signed b signed.held signed.round in
    let pasts : padded.pasts ≡ v.pasts = ap (λ (w : ServerView). w.pasts) (signed_so v s padded signs).is in
    let kept : past_of padded.pasts r.0 ≡ Some past = ap (λ l. past_of l r.0) pasts ∙ signed.kept in
    let shows = c.in_ok-show.ensures past kept in
    let looked = c.in_ok-look_at.ensures in
    let here : LooksAt (with_opened shown record { r = r; k = k }) record { r = r; k = k } looked.0 after =
    subst (λ (l : List Place). LooksAt (record shown { opened = l }) record { r = r; k = k } looked.0 after) c.in_ok-push.ensures looked.2 in
    let first : c.sign_pads.new.acts.items ≡ post_next v to s ∷ [] =
    c.in_ok-sign_pads.ensures.posted b signed.held signed.round ∙ ap (λ l. l ++ post_next v to s ∷ []) c.new-acts.ensures.items in
    record {
      padded = padded;
      signs = signs;
      shown = shown;
      shown_did = shows.0;
      shows = shows.2;
      looked_did = looked.0;
      looks = subst (λ (q : Round). LooksAt (with_opened shown record { r = q; k = k }) record { r = q; k = k } looked.0 after) (sym signed.round) here;
      in_order = looked.1 ∙ ap (λ l. l ++ looked.0) (shows.1 ∙ ap (λ l. l ++ shows.0) first);
    }
