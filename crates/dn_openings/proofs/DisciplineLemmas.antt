-- The openings that a server signs keep its discipline.
use Rattle.std.proofs.Common.{◌≡◌, ℕ, ◌<◌, Bool, false, List, [], ◌∷◌, ◌++◌, length, refl, sym, ap, ◌∙◌, subst, inl, inr}
use Rattle.std.specs.Prelude.{Contains, All, Some}
use Rattle.std.proofs.lemmas.Option.{same_Some}
use Rattle.std.proofs.lemmas.List.Elements.{Contains-push_cases}
use Rattle.dn_wire.specs.declared.ids.Round.{Round}
use Rattle.dn_record_types.specs.declared.body.Body.{Body}
use Rattle.dn_record_types.specs.declared.shown.ShownCipher.{ShownCipher}
use Rattle.dn_record_types.specs.declared.statement.Statement.{Statement}
use Rattle.dn_record_types.specs.declared.statement.Statement.TheVariants as kinds
use Rattle.dn_lms.specs.Key.{Key}
use Rattle.dn_lms.specs.Signature.{public_key}
use Rattle.dn_roster.specs.Roster.{key_of}
use Rattle.dn_seal.specs.Dealt.{server}
use Rattle.dn_seal.specs.Said.{SaidView, IsUnder}
use Rattle.dn_trace.specs.Trial.{Says}
use Rattle.dn_cert.specs.Chain.{IsChain, bodies}
use Rattle.dn_cert.proofs.ChainLemmas.{one_body}
use Rattle.dn_server.specs.declared.act.Act.{Act}
use Rattle.dn_server.specs.declared.answer.Answer.{Answer}
use Rattle.dn_server.specs.declared.past.Past.{Past}
use Rattle.dn_server.specs.declared.places.Place.{Place}
use Rattle.dn_server.specs.Justified.{Seat}
use Rattle.dn_server.specs.Server.{ServerView, itself, past_of}
use Rattle.dn_openings.specs.Evidence.{with_evidence}
use Rattle.dn_openings.specs.Challenging.{LooksAt, LooksAtAll, has_looked, waits, finds_fault, finds_nobody, challenges, none, more}
use Rattle.dn_openings.specs.Accusing.{HasSigned, SignsAndKeeps, Shows, first_of_round, again, Opens, not_signed, not_valid, is_opened, is_spent, opens, shown_of, pads_at, opened_bits, with_opened}
use Rattle.dn_openings.specs.Hearing.{not_held, repeats, keeps, repeats_it, keeps_it, HearsEvidence, of_no_use, opening, accusation, answers}
use Rattle.dn_openings.specs.Open.{CanOpen, IsOpenPlace}
use Rattle.dn_openings.specs.Discipline.{ArePads, AreShown, KeepsOpenings, LeavesOpenings, SignsNoOpenings}
use Rattle.dn_openings.proofs.OpenLemmas.{signed_so, one_within}

-- what discipline speaks of, but for what is signed
record IsBeside (v after : ServerView) : Type 0 where
  pub seat : after.seat ≡ v.seat
  pub held : (b : Body) → Contains (bodies v.chain) b → Contains (bodies after.chain) b
  pub pasts : (r : ℕ) (past : Past) → past_of v.pasts r ≡ Some past → past_of after.pasts r ≡ Some past

signed_beside : (v after : ServerView) → IsBeside v after → (r : Round) (b : Body) (past : Past) → HasSigned v r b past → HasSigned after r b past
signed_beside v after is r b past h = record { held = is.held b h.held; round = h.round; kept = is.pasts r.0 past h.kept; of_body = h.of_body }

pads_beside : (v after : ServerView) → IsBeside v after → (r : Round) (k : ℕ) (bits : List Bool) → ArePads v r k bits → ArePads after r k bits
pads_beside v after is r k bits p = record {
  body = p.body;
  past = p.past;
  signed = signed_beside v after is r p.body p.past p.signed;
  full = p.full;
  within = p.within;
  true_bits = p.true_bits ∙ ap (λ (s : Seat). opened_bits s p.body k) (sym is.seat);
}

shown_beside : (v after : ServerView) → IsBeside v after → (r : Round) (s : List Bool) (own : List ShownCipher) → AreShown v r s own → AreShown after r s own
shown_beside v after is r s own p = record { body = p.body; past = p.past; signed = signed_beside v after is r p.body p.past p.signed; full = p.full; are = p.are }

-- nothing more is signed
record IsQuiet (v after : ServerView) : Type 0 where
  pub beside : IsBeside v after
  pub signed : after.signed ≡ v.signed

same_quiet : (v after : ServerView) → after ≡ v → IsQuiet v after
same_quiet v after e = record {
  beside = record {
    seat = ap (λ (w : ServerView). w.seat) e;
    held = λ b c. subst (λ (w : ServerView). Contains (bodies w.chain) b) (sym e) c;
    pasts = λ r past c. subst (λ (w : ServerView). past_of w.pasts r ≡ Some past) (sym e) c;
  };
  signed = ap (λ (w : ServerView). w.signed) e;
}

quiet_over : (v w after : ServerView) → IsQuiet v w → IsQuiet w after → IsQuiet v after
quiet_over v w after p q = record {
  beside = record {
    seat = q.beside.seat ∙ p.beside.seat;
    held = λ b c. q.beside.held b (p.beside.held b c);
    pasts = λ r past c. q.beside.pasts r past (p.beside.pasts r past c);
  };
  signed = q.signed ∙ p.signed;
}

nothing_moved : (v : ServerView) → IsBeside v v
nothing_moved v = record { seat = refl; held = λ b c. c; pasts = λ r past c. c }

with_parts : (v : ServerView) (evidence : List SaidView) (opened challenged : List Place) → IsQuiet v (record v { evidence = evidence; opened = opened; challenged = challenged })
with_parts v evidence opened challenged = record { beside = record { seat = refl; held = λ b c. c; pasts = λ r past c. c }; signed = refl }

kept_quiet : (v after : ServerView) → IsQuiet v after → KeepsOpenings v → KeepsOpenings after
kept_quiet v after is keeps_v = record {
  pads = λ r k bits c. pads_beside v after is.beside r k bits (keeps_v.pads r k bits (subst (λ l. Contains l (kinds.PadBits r k bits)) is.signed c));
  shown = λ r s own c. shown_beside v after is.beside r s own (keeps_v.shown r s own (subst (λ l. Contains l (kinds.Shown r s own)) is.signed c));
}

looks_quiet : (v : ServerView) (place : Place) (did : List Act) (after : ServerView) → LooksAt v place did after → IsQuiet v after
looks_quiet v place did after (has_looked old nothing same) = same_quiet v after same
looks_quiet v place did after (waits new some nothing same) = same_quiet v after same
looks_quiet v place did after (finds_fault trial new all is fault nothing e) =
    quiet_over v (record v { challenged = v.challenged ++ place ∷ [] }) after (with_parts v v.evidence v.opened (v.challenged ++ place ∷ [])) (same_quiet (record v { challenged = v.challenged ++ place ∷ [] }) after e)
looks_quiet v place did after (finds_nobody trial new all is named nobody nothing e) =
    quiet_over v (record v { challenged = v.challenged ++ place ∷ [] }) after (with_parts v v.evidence v.opened (v.challenged ++ place ∷ [])) (same_quiet (record v { challenged = v.challenged ++ place ∷ [] }) after e)
looks_quiet v place did after (challenges trial first others envelopes new all is named called sent did_is e) =
    quiet_over v (record v { challenged = v.challenged ++ place ∷ [] }) after (with_parts v v.evidence v.opened (v.challenged ++ place ∷ [])) (same_quiet (record v { challenged = v.challenged ++ place ∷ [] }) after e)

looks_all_quiet : (v : ServerView) (places : List Place) (did : List Act) (after : ServerView) → LooksAtAll v places did after → IsQuiet v after
looks_all_quiet v places did after (none nowhere nothing same) = same_quiet v after same
looks_all_quiet v places did after (more place others first rest between is all look did_is) =
    quiet_over v between after (looks_all_quiet v others first between all) (looks_quiet between place rest after look)

-- one statement more is signed
signs_beside : (v : ServerView) (s : Statement) (after : ServerView) → SignsAndKeeps v s after → IsBeside v after × (after.signed ≡ v.signed ++ s ∷ [])
signs_beside v s after signs =
    let so = signed_so v s after signs in
    let at : ServerView = record v { signed = v.signed ++ s ∷ []; evidence = so.evidence } in (
      record {
        seat = ap (λ (w : ServerView). w.seat) so.is;
        held = λ b c. subst (λ (w : ServerView). Contains (bodies w.chain) b) (sym so.is) c;
        pasts = λ r past c. subst (λ (w : ServerView). past_of w.pasts r ≡ Some past) (sym so.is) c;
      },
      ap (λ (w : ServerView). w.signed) so.is,
    )

-- pad bits more
pads_more : (v after : ServerView) (r : Round) (b : Body) (past : Past) (k : ℕ) → HasSigned v r b past → b.thin ≡ false → k < length b.out
    → SignsAndKeeps v (pads_at v.seat b k) after → KeepsOpenings v → KeepsOpenings after
pads_more v after r b past k signed full within signs keeps_v =
    let so = signs_beside v (pads_at v.seat b k) after signs in
    let here : ArePads v b.r k (opened_bits v.seat b k) = record {
      body = b;
      past = past;
      full = full;
      within = within;
      true_bits = refl;
      signed = record { held = signed.held; round = refl; kept = ap (λ (q : Round). past_of v.pasts q.0) signed.round ∙ signed.kept; of_body = signed.of_body };
    } in
    record {
      pads = λ q n bits c.
          elim (Contains-push_cases v.signed (pads_at v.seat b k) (kinds.PadBits q n bits) (subst (λ l. Contains l (kinds.PadBits q n bits)) so.1 c)) [
            | inl old ↦ pads_beside v after so.0 q n bits (keeps_v.pads q n bits old)
            | inr new ↦
                let round : b.r ≡ q = cc in
                let at : k ≡ n = cc in
                let same : opened_bits v.seat b k ≡ bits = cc in
                pads_beside v after so.0 q n bits
                (subst (λ x. ArePads v q n x) same (subst (λ x. ArePads v q x (opened_bits v.seat b k)) at (subst (λ x. ArePads v x k (opened_bits v.seat b k)) round here)))
          ];
      shown = λ q s own c.
          elim (Contains-push_cases v.signed (pads_at v.seat b k) (kinds.Shown q s own) (subst (λ l. Contains l (kinds.Shown q s own)) so.1 c)) [
            | inl old ↦ shown_beside v after so.0 q s own (keeps_v.shown q s own old)
            | inr new ↦ cc
          ];
    }

-- what is shown more
shown_more : (v after : ServerView) (r : Round) (b : Body) (past : Past) → HasSigned v r b past → b.thin ≡ false
    → SignsAndKeeps v (shown_of past) after → KeepsOpenings v → KeepsOpenings after
shown_more v after r b past signed full signs keeps_v =
    let so = signs_beside v (shown_of past) after signs in
    record {
      pads = λ q n bits c.
          elim (Contains-push_cases v.signed (shown_of past) (kinds.PadBits q n bits) (subst (λ l. Contains l (kinds.PadBits q n bits)) so.1 c)) [
            | inl old ↦ pads_beside v after so.0 q n bits (keeps_v.pads q n bits old)
            | inr new ↦ cc
          ];
      shown = λ q s own c.
          elim (Contains-push_cases v.signed (shown_of past) (kinds.Shown q s own) (subst (λ l. Contains l (kinds.Shown q s own)) so.1 c)) [
            | inl old ↦ shown_beside v after so.0 q s own (keeps_v.shown q s own old)
            | inr new ↦
                let round : past.body.r ≡ q = cc in
                let at : r ≡ q = sym signed.round ∙ sym (ap (λ (x : Body). x.r) signed.of_body) ∙ round in
                let here : HasSigned v q b past =
                record { held = signed.held; round = signed.round ∙ at; kept = ap (λ (x : Round). past_of v.pasts x.0) (sym at) ∙ signed.kept; of_body = signed.of_body } in
                shown_beside v after so.0 q s own (record { body = b; past = past; signed = here; full = full; are = sym new })
          ];
    }

shows_keep : (v after : ServerView) (r : Round) (b : Body) (past : Past) (did : List Act) → HasSigned v r b past → b.thin ≡ false
    → Shows v past did after → KeepsOpenings v → KeepsOpenings after
shows_keep v after r b past did signed full (first_of_round lacks signs did_is) keeps_v = shown_more v after r b past signed full signs keeps_v
shows_keep v after r b past did signed full (again said has there by is did_is same) keeps_v = kept_quiet v after (same_quiet v after same) keeps_v

opens_keep : (v : ServerView) (b : Body) (past : Past) (k : ℕ) (did : List Act) (after : ServerView) (r : Round) → HasSigned v r b past → b.thin ≡ false
    → k < length b.out → Opens v b past k did after → KeepsOpenings v → KeepsOpenings after
opens_keep v b past k did after r signed full within o keeps_v =
    let place : Place = record { r = b.r; k = k } in
    let so = signs_beside v (pads_at v.seat b k) o.padded o.signs in
    let padded = pads_more v o.padded r b past k signed full within o.signs keeps_v in
    let then = shows_keep o.padded o.shown r b past o.shown_did (signed_beside v o.padded so.0 r b past signed) full o.shows padded in
    let opened = kept_quiet o.shown (with_opened o.shown place) (with_parts o.shown o.shown.evidence (o.shown.opened ++ place ∷ []) o.shown.challenged) then in
    kept_quiet (with_opened o.shown place) after (looks_quiet (with_opened o.shown place) place o.looked_did after o.looks) opened

-- what a server hears leaves it disciplined
pub hears_keep : (v : ServerView) (said : SaidView) (answer : Answer) (after : ServerView) → HearsEvidence v said answer after → KeepsOpenings v → KeepsOpenings after
hears_keep v said answer after (of_no_use useless e same) keeps_v = kept_quiet v after (same_quiet v after same) keeps_v
hears_keep v said answer after (opening r by is (not_held lacks e same)) keeps_v = kept_quiet v after (same_quiet v after same) keeps_v
hears_keep v said answer after (opening r by is (repeats holds says e same)) keeps_v = kept_quiet v after (same_quiet v after same) keeps_v
hears_keep v said answer after (opening r by is (keeps places did holds new touched looks e)) keeps_v =
    kept_quiet v after
    (quiet_over v (with_evidence v said) after (with_parts v (v.evidence ++ said ∷ []) v.opened v.challenged) (looks_all_quiet (with_evidence v said) places did after looks)) keeps_v
hears_keep v said answer after (accusation r slot k is (not_signed lacks e same)) keeps_v = kept_quiet v after (same_quiet v after same) keeps_v
hears_keep v said answer after (accusation r slot k is (not_valid b past layout why accused invalid e same)) keeps_v = kept_quiet v after (same_quiet v after same) keeps_v
hears_keep v said answer after (accusation r slot k is (is_opened b past layout valid accused holds old e same)) keeps_v = kept_quiet v after (same_quiet v after same) keeps_v
hears_keep v said answer after (accusation r slot k is (is_spent b past layout valid accused holds new few e same)) keeps_v = kept_quiet v after (same_quiet v after same) keeps_v
hears_keep v said answer after (accusation r slot k is (opens b past layout valid did accused holds new enough o e)) keeps_v =
    opens_keep v b past valid.k did after r accused.body holds.full (one_within b.out valid.k holds.one) o keeps_v
hears_keep v said answer after (answers by is (repeats_it says e same)) keeps_v = kept_quiet v after (same_quiet v after same) keeps_v
hears_keep v said answer after (answers by is (keeps_it new e same)) keeps_v =
    kept_quiet v after
    (quiet_over v (with_evidence v said) after (with_parts v (v.evidence ++ said ∷ []) v.opened v.challenged) (same_quiet (with_evidence v said) after same)) keeps_v

-- one statement a place
pub one_pads : (v : ServerView) → IsChain v.chain → KeepsOpenings v → (r : Round) (k : ℕ) (one other : List Bool)
    → Contains v.signed (kinds.PadBits r k one) → Contains v.signed (kinds.PadBits r k other) → one ≡ other
one_pads v chain keeps_v r k one other p q =
    let x = keeps_v.pads r k one p in
    let y = keeps_v.pads r k other q in
    let same : x.body ≡ y.body = one_body v.chain chain x.body y.body x.signed.held y.signed.held (ap (λ s. s.0) (x.signed.round ∙ sym y.signed.round)) in
    x.true_bits ∙ ap (λ b. opened_bits v.seat b k) same ∙ sym y.true_bits

pub one_shown : (v : ServerView) → KeepsOpenings v → (r : Round) (s t : List Bool) (own others : List ShownCipher)
    → Contains v.signed (kinds.Shown r s own) → Contains v.signed (kinds.Shown r t others) → kinds.Shown r s own ≡ kinds.Shown r t others
one_shown v keeps_v r s t own others p q =
    let x = keeps_v.shown r s own p in
    let y = keeps_v.shown r t others q in
    let same : x.past ≡ y.past = same_Some x.past y.past (sym x.signed.kept ∙ y.signed.kept) in
    x.are ∙ ap shown_of same ∙ sym y.are

-- what else a server does
pub leaves_keeps : (v after : ServerView) → LeavesOpenings v after → SignsNoOpenings v after → KeepsOpenings v → KeepsOpenings after
leaves_keeps v after on quiet keeps_v =
    let is : IsBeside v after = record { seat = on.seat; held = on.held; pasts = on.pasts } in
    record {
      pads = λ r k bits c. pads_beside v after is r k bits (keeps_v.pads r k bits (quiet.pads r k bits c));
      shown = λ r s own c. shown_beside v after is r s own (keeps_v.shown r s own (quiet.shown r s own c));
    }

pub leaves_can : (v after : ServerView) → LeavesOpenings v after → CanOpen v → CanOpen after
leaves_can v after on can =
    let is : IsBeside v after = record { seat = on.seat; held = on.held; pasts = on.pasts } in
    record {
      member = ap (λ (s : Seat). key_of s.roster (server s.number)) on.seat ∙ can.member ∙ ap (λ (k : Key). Some (public_key k)) (sym on.key);
      in_group = on.in_group;
      seeds = ap (λ (s : Seat). length s.seeds) on.seat ∙ can.seeds ∙ sym (ap (λ (s : Seat). length s.roster.clients) on.seat);
      under = subst (λ (s : Seat). All (IsUnder s.roster) after.evidence) (sym on.seat) (subst (λ l. All (IsUnder v.seat.roster) l) (sym on.evidence) can.under);
      sizes = on.sizes;
      places = λ place there.
          let p : IsOpenPlace v place = can.places place (subst (λ l. Contains l place) on.opened there) in
          let says : Says after.evidence (itself v) (shown_of p.past) = subst (λ l. Says l (itself v) (shown_of p.past)) (sym on.evidence) p.shown in
          record {
            body = p.body;
            past = p.past;
            signed = signed_beside v after is place.r p.body p.past p.signed;
            full = p.full;
            within = p.within;
            shown = subst (λ (s : Seat). Says after.evidence (server s.number) (shown_of p.past)) (sym on.seat) says;
          };
    }
