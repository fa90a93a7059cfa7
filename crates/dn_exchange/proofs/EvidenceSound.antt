-- A server that hears of openings stays sound.
use Rattle.std.proofs.Common.{◌≡◌, ℕ, ◌+◌, ◌-◌, ◌≤◌, Bool, true, false, List, [], ◌∷◌, ◌++◌, length, cond, refl, sym, ap, subst, ◌∙◌, arith, inl, inr, length-append}
use Rattle.std.specs.Prelude.{◌⊎◌, Contains}
use Rattle.std.proofs.lemmas.List.Elements.{Contains-append_left, Contains-push_cases}
use Rattle.dn_records.specs.Records.{kind_byte}
use Rattle.dn_wire.specs.declared.ids.Round.{Round}
use Rattle.dn_record_types.specs.declared.body.Body.{Body}
use Rattle.dn_record_types.specs.declared.statement.Statement.{Statement}
use Rattle.dn_seal.specs.Said.{SaidView}
use Rattle.dn_server.specs.declared.act.Act.{Act}
use Rattle.dn_server.specs.declared.answer.Answer.{Answer}
use Rattle.dn_server.specs.declared.past.Past.{Past}
use Rattle.dn_server.specs.declared.places.Place.{Place}
use Rattle.dn_server.specs.Server.{ServerView, left_of}
use Rattle.dn_openings.specs.Evidence.{with_evidence}
use Rattle.dn_openings.specs.Challenging.{LooksAt, LooksAtAll, has_looked, waits, finds_fault, finds_nobody, challenges, none, more, with_looked}
use Rattle.dn_openings.specs.Accusing.{SignsAndKeeps, Shows, first_of_round, again, Opens, not_signed, not_valid, is_opened, is_spent, opens, shown_of, pads_at, with_opened, has_opened, leaves_due, HasSigned}
use Rattle.dn_openings.specs.Hearing.{not_held, repeats, keeps, repeats_it, keeps_it, HearsEvidence, of_no_use, opening, accusation, answers}
use Rattle.dn_openings.proofs.OpenLemmas.{signed_so}
use Rattle.dn_exchange.specs.Invariant.{IsSound}

-- the statement is pad bits, or shows ciphertexts
abbrev pub IsOpening : Statement → Type 0
IsOpening s = (7 ≤ kind_byte s) × (kind_byte s ≤ 8)

-- the server has n statements more that it signed, all openings, and other openings
pub record Grown (v w : ServerView) (n : ℕ) : Type 0 where
  pub signed : List Statement
  pub opened : List Place
  pub evidence : List SaidView
  pub challenged : List Place
  pub is : w ≡ record v { signed = signed; opened = opened; evidence = evidence; challenged = challenged }
  pub count : length signed ≡ length v.signed + n
  pub stay : (t : Statement) → Contains v.signed t → Contains signed t
  pub come : (t : Statement) → Contains signed t → Contains v.signed t ⊎ IsOpening t

not_grown : (v w : ServerView) → w ≡ v → Grown v w 0
not_grown v w e = record { signed = v.signed; opened = v.opened; evidence = v.evidence; challenged = v.challenged; is = e; count = omega arith; stay = λ t c. c; come = λ t c. inl c }

grown_over : (v w x : ServerView) (m n : ℕ) → Grown v w m → Grown w x n → Grown v x (m + n)
grown_over v w x m n p q =
    let at : ServerView = record v { signed = p.signed; opened = p.opened; evidence = p.evidence; challenged = p.challenged } in
    let count : length q.signed ≡ length w.signed + n = q.count in
    let before : length w.signed ≡ length p.signed = ap (λ (y : ServerView). length y.signed) p.is in
    let first : length p.signed ≡ length v.signed + m = p.count in
    record {
      signed = q.signed;
      opened = q.opened;
      evidence = q.evidence;
      challenged = q.challenged;
      is = q.is ∙ ap (λ (y : ServerView). let z : ServerView = record y { signed = q.signed; opened = q.opened; evidence = q.evidence; challenged = q.challenged } in z) p.is;
      count = omega arith;
      stay = λ t c. q.stay t (subst (λ (y : ServerView). Contains y.signed t) (sym p.is) (p.stay t c));
      come = λ t c. elim (q.come t c) [ inl was ↦ p.come t (subst (λ (y : ServerView). Contains y.signed t) p.is was) | inr new ↦ inr new ];
    }

looked_grown : (v w : ServerView) (place : Place) → w ≡ with_looked v place → Grown v w 0
looked_grown v w place e =
    record { signed = v.signed; opened = v.opened; evidence = v.evidence; challenged = v.challenged ++ place ∷ []; is = e; count = omega arith; stay = λ t c. c; come = λ t c. inl c }

looks_grown : (v : ServerView) (place : Place) (did : List Act) (w : ServerView) → LooksAt v place did w → Grown v w 0
looks_grown v place did w (has_looked old nothing same) = not_grown v w same
looks_grown v place did w (waits new some nothing same) = not_grown v w same
looks_grown v place did w (finds_fault trial new all is fault nothing e) = looked_grown v w place e
looks_grown v place did w (finds_nobody trial new all is named nobody nothing e) = looked_grown v w place e
looks_grown v place did w (challenges trial first others envelopes new all is named called sent did_is e) = looked_grown v w place e

looks_all_grown : (v : ServerView) (places : List Place) (did : List Act) (w : ServerView) → LooksAtAll v places did w → Grown v w 0
looks_all_grown v places did w (none nowhere nothing same) = not_grown v w same
looks_all_grown v places did w (more place others first rest between is all look did_is) =
    grown_over v between w 0 0 (looks_all_grown v others first between all) (looks_grown between place rest w look)

signs_grown : (v : ServerView) (s : Statement) (w : ServerView) → IsOpening s → SignsAndKeeps v s w → Grown v w 1
signs_grown v s w opens_it signs =
    let so = signed_so v s w signs in
    record {
      signed = v.signed ++ s ∷ [];
      opened = v.opened;
      evidence = so.evidence;
      challenged = v.challenged;
      is = so.is;
      count = length-append v.signed (s ∷ []);
      stay = λ t c. Contains-append_left v.signed (s ∷ []) t c;
      come = λ t c. elim (Contains-push_cases v.signed s t c) [ inl was ↦ inl was | inr new ↦ inr (subst IsOpening new opens_it) ];
    }

kept_grown : (v w : ServerView) (said : SaidView) → w ≡ with_evidence v said → Grown v w 0
kept_grown v w said e = record { signed = v.signed; opened = v.opened; evidence = v.evidence ++ said ∷ []; challenged = v.challenged; is = e; count = omega arith; stay = λ t c. c; come = λ t c. inl c }

shows_grown : (v : ServerView) (past : Past) (did : List Act) (w : ServerView) → Shows v past did w
    → ((has_opened v past.body.r ≡ false) × Grown v w 1) ⊎ Grown v w 0
shows_grown v past did w (first_of_round lacks signs did_is) = inl (lacks, signs_grown v (shown_of past) w (omega arith, omega arith) signs)
shows_grown v past did w (again said has there by is did_is same) = inr (not_grown v w same)

opened_grown : (v : ServerView) (place : Place) → Grown v (with_opened v place) 0
opened_grown v place =
    record { signed = v.signed; opened = v.opened ++ place ∷ []; evidence = v.evidence; challenged = v.challenged; is = refl; count = omega arith; stay = λ t c. c; come = λ t c. inl c }

-- what is signed for a place are no more than the leaves that are due
opens_grown : (v : ServerView) (b : Body) (past : Past) (k : ℕ) (did : List Act) (w : ServerView) (r : Round) → HasSigned v r b past
    → Opens v b past k did w → (n : ℕ) × Grown v w n × (n ≤ leaves_due v r)
opens_grown v b past k did w r signed o =
    let place : Place = record { r = b.r; k = k } in
    let first : Grown v o.padded 1 = signs_grown v (pads_at v.seat b k) o.padded (omega arith, omega arith) o.signs in
    let last : Grown o.shown w 0 = grown_over o.shown (with_opened o.shown place) w 0 0 (opened_grown o.shown place) (looks_grown (with_opened o.shown place) place o.looked_did w o.looks) in
    let same : past.body.r ≡ r = ap (λ (x : Body). x.r) signed.of_body ∙ signed.round in
    let due : (b : Bool) → has_opened v r ≡ b → leaves_due v r ≡ cond b 1 2 = λ b e. ap (λ t. cond t 1 2) e in
    elim (shows_grown o.padded past o.shown_did o.shown o.shows) [
      | inl two ↦
          let lacks : has_opened v r ≡ false =
          ap (has_opened v) (sym same)
          ∙ sym (ap (λ (x : ServerView). has_opened x past.body.r) (signed_so v (pads_at v.seat b k) o.padded o.signs).is) ∙ two.0 in
          let two_due : leaves_due v r ≡ 2 = due false lacks in
          (2, grown_over v o.shown w 2 0 (grown_over v o.padded o.shown 1 1 first two.1) last, omega arith)
      | inr one ↦
          (1, grown_over v o.shown w 1 0 (grown_over v o.padded o.shown 1 0 first one) last, one_due (has_opened v r) refl)
    ]
  where
    one_due : (t : Bool) → has_opened v r ≡ t → 1 ≤ leaves_due v r
    one_due true e = let d : leaves_due v r ≡ 1 = ap (λ x. cond x 1 2) e in omega arith
    one_due false e = let d : leaves_due v r ≡ 2 = ap (λ x. cond x 1 2) e in omega arith

pub hears_grown : (v : ServerView) (said : SaidView) (a : Answer) (w : ServerView) → HearsEvidence v said a w → (n : ℕ) × Grown v w n × ((n ≡ 0) ⊎ (n ≤ left_of v - v.aside))
hears_grown v said a w (of_no_use useless e same) = (0, not_grown v w same, inl refl)
hears_grown v said a w (opening r by is (not_held lacks e same)) = (0, not_grown v w same, inl refl)
hears_grown v said a w (opening r by is (repeats holds says e same)) = (0, not_grown v w same, inl refl)
hears_grown v said a w (opening r by is (keeps places did holds new touched looks e)) =
    (0, grown_over v (with_evidence v said) w 0 0 (kept_grown v (with_evidence v said) said refl) (looks_all_grown (with_evidence v said) places did w looks), inl refl)
hears_grown v said a w (accusation r slot k is (not_signed lacks e same)) = (0, not_grown v w same, inl refl)
hears_grown v said a w (accusation r slot k is (not_valid b past layout why accused invalid e same)) = (0, not_grown v w same, inl refl)
hears_grown v said a w (accusation r slot k is (is_opened b past layout valid accused holds old e same)) = (0, not_grown v w same, inl refl)
hears_grown v said a w (accusation r slot k is (is_spent b past layout valid accused holds new few e same)) = (0, not_grown v w same, inl refl)
hears_grown v said a w (accusation r slot k is (opens b past layout valid did accused holds new enough o e)) =
    let grown = opens_grown v b past valid.k did w r accused.body o in
    let few = grown.2 in
    (grown.0, grown.1, inr (omega arith))
hears_grown v said a w (answers by is (repeats_it says e same)) = (0, not_grown v w same, inl refl)
hears_grown v said a w (answers by is (keeps_it new e same)) = (0, kept_grown v w said same, inl refl)

grown_sound : (v w : ServerView) (n : ℕ) → Grown v w n → ((n ≡ 0) ⊎ (n ≤ left_of v - v.aside)) → IsSound v → IsSound w
grown_sound v w n g few s =
    let after : ServerView = record v { signed = g.signed; opened = g.opened; evidence = g.evidence; challenged = g.challenged } in
    let so : IsSound after = record {
      member = s.member;
      is_key = s.is_key;
      seated = record { roster = s.seated.roster; number = s.seated.number; seeds = s.seated.seeds };
      workers = s.workers;
      slots = s.slots;
      in_group = s.in_group;
      window = s.window;
      claims = s.claims;
      are_claims = s.are_claims;
      claimed = s.claimed;
      is_open = s.is_open;
      round = s.round;
      aside = λ b. let was = s.aside b in let count = g.count in elim few [ inl nothing ↦ omega arith | inr enough ↦ omega arith ];
      some_aside = s.some_aside;
      running = s.running;
    } in
    subst IsSound (sym g.is) so

pub evidence_sound : (v : ServerView) (said : SaidView) (a : Answer) (w : ServerView) → HearsEvidence v said a w → IsSound v → IsSound w
evidence_sound v said a w h s = let g = hears_grown v said a w h in grown_sound v w g.0 g.1 g.2 s
