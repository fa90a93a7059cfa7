-- A server stays honest where it goes on in its round.
use Rattle.std.proofs.Common.{◌≡◌, ◌≢◌, ℕ, ◌<◌, ◌≤◌, Bool, true, false, List, [], ◌∷◌, ◌++◌, length, get_or, Some, None, refl, sym, ap, subst, ◌∙◌, arith, inl, inr}
use Rattle.std.specs.Prelude.{Option, All, Contains, ◌==◌, slice_get, IsSome}
use Rattle.std.proofs.lemmas.Bool.Decides.{eqb_tells}
use Rattle.std.proofs.lemmas.List.Elements.{Contains-append_left, Contains-push, Contains-push_cases}
use Rattle.std.proofs.lemmas.Option.{same_Some, slice_get-get_or}
use Rattle.dn_wire.specs.declared.ids.Round.{Round}
use Rattle.dn_record_types.specs.declared.body.Body.{Body}
use Rattle.dn_record_types.specs.declared.body.Listed.{Listed}
use Rattle.dn_record_types.specs.declared.inventory.Inventory.{Inventory}
use Rattle.dn_record_types.specs.declared.statement.Statement.{Statement}
use Rattle.dn_record_types.specs.declared.statement.Statement.TheVariants as kinds
use Rattle.dn_records.specs.Records.{kind_byte}
use Rattle.dn_seal.specs.Said.{SaidView}
use Rattle.dn_cert.specs.Trim.{given_to}
use Rattle.dn_server.specs.declared.past.Past.{Past}
use Rattle.dn_server.specs.declared.run.Stage.{Stage}
use Rattle.dn_server.specs.declared.run.Stage.TheVariants as stages
use Rattle.dn_server.specs.declared.run.Sum.{Sum}
use Rattle.dn_server.specs.Justified.{Course, Justified, AreOfRows, server_string, digest_by}
use Rattle.dn_server.specs.Server.{ServerView, AreKept, WasIncluded, kept_of, statement_of, said_next, servers_in, course_of}
use Rattle.dn_server.specs.Keeping.{round_of, HasAll}
use Rattle.dn_server.proofs.KeptLemmas.{kept_round, statement_said, kept_kind}
use Rattle.dn_server.proofs.Shapes.{sign_shape}
use Rattle.dn_rounds.specs.Going.{IsFree, IsListing, IsSum, IsCommitDue, IsRevealDue, IsBodyDue, IsThinDue, IsUnopposed, with_own, commitment_of, past_with, thin_past, turned}
use Rattle.dn_rounds.proofs.SumLemmas.{sum_long}
use Rattle.dn_exchange.specs.Disciplined.{IsSaidBy, IsPast, IsPastAs, IsFullPast, AreGood, commit_to, HasSaidNone}
use Rattle.dn_exchange.specs.Honest.{HasSaid, HasSaidInventory, IsCommittedTo, HasRevealed, IsSaidAt, aside_at, AreFitting, IsHonest}
use Rattle.dn_exchange.specs.Closing.{inventory_of}
use Rattle.dn_exchange.specs.Invariant.{IsSound, IsRunning, standing_of}
use Rattle.dn_exchange.proofs.Grows.{included_grow}
use Rattle.dn_exchange.proofs.HonestMoves.{KeepsMore}
use Rattle.dn_exchange.proofs.HonestSays.{spoke, spoke_honest}
use Rattle.dn_exchange.proofs.JustifiedLemmas.{IsOwnSigned, IsReady, IsThinReady, due_justified, thin_justified, servers_differ}
use Rattle.dn_exchange.proofs.KeptSound.{find_stays, statement_found, statement_comes}
use Rattle.dn_exchange.proofs.OwnKept.{OneKept, own_keeps, own_one, own_there}

module _ (v : ServerView) (h : IsHonest v) (sound : IsSound v) (runs : v.run.is_running ≡ true) where
  run : IsRunning (standing_of v)
  run = sound.running runs

  above : 1 ≤ v.run.r.0
  above = let before = run.course.before in omega arith

  at : (stage : Stage) → v.run.stage ≡ stage → IsSaidAt stage v
  at stage e = subst (λ (x : Stage). IsSaidAt x v) e h.said

  -- an inventory that is kept is of the round
  of_round : (j : ℕ) (i : Inventory) → statement_of v.run.kept 3 j ≡ Some (kinds.Inventory i) → i.r ≡ v.run.r
  of_round j i e =
      let found = statement_said v.run.kept 3 j (kinds.Inventory i) e in
      let round = kept_round v.run.r v.run.kept 3 j found.0 sound.round found.1 in
      same_Some i.r v.run.r (sym (ap round_of found.2) ∙ round)

  module _ (s : Statement) where
    abbrev pub next : List SaidView
    next = with_own (kept_of v.run.kept (kind_byte s) v.seat.number) v.run.kept (said_next v s)

    more : KeepsMore v.run.kept next
    more = own_keeps v.run.kept (said_next v s) v.seat.number refl (kept_of v.run.kept (kind_byte s) v.seat.number)

    one : OneKept next
    one = own_one v.run.kept (said_next v s) v.seat.number refl (kept_of v.run.kept (kind_byte s) v.seat.number) refl h.one_kept

    there : IsFree v s → statement_of next (kind_byte s) v.seat.number ≡ Some s
    there free = own_there v.run.kept (said_next v s) v.seat.number refl (kept_of v.run.kept (kind_byte s) v.seat.number) refl free

    -- what is kept of another server is what was
    other_kept : (o : Option SaidView) (kind j : ℕ) (t : Statement) → j ≢ v.seat.number → statement_of (with_own o v.run.kept (said_next v s)) kind j ≡ Some t
        → statement_of v.run.kept kind j ≡ Some t
    other_kept (Some x) kind j t other e = e
    other_kept None kind j t other e = elim (statement_comes v.run.kept (said_next v s) kind j t e) [
      | inl old ↦ old
      | inr new ↦ absurd (servers_differ v.seat.number j (λ e. other (sym e)) new.3)
    ]

    fitting : AreFitting v next
    fitting j d x other commit reveal =
        let o = kept_of v.run.kept (kind_byte s) v.seat.number in
        h.fitting runs j d x other (other_kept o 4 j (kinds.Commit v.run.r d) other commit) (other_kept o 5 j (kinds.Reveal v.run.r x) other reveal)

    module _ (stage : Stage) (sum : Option Sum) (pasts : List Past) where
      abbrev w : ServerView
      w = spoke v h s stage sum next pasts None

      old : (t : Statement) → HasSaid v t → HasSaid w t
      old t x = record { signed = Contains-append_left v.signed (s ∷ []) t x.signed; kept = more.stays (kind_byte t) v.seat.number t x.kept }

      new : IsFree v s → HasSaid w s
      new free = record { signed = Contains-push v.signed s; kept = there free }

      none_on : (kind : ℕ) → kind_byte s ≢ kind → HasSaidNone v kind → HasSaidNone w kind
      none_on kind other none t c round = elim (Contains-push_cases v.signed s t c) [
        | inl was ↦ none t was round
        | inr is ↦ λ e. other (ap kind_byte is ∙ e)
      ]

      included_on : (t : Statement) (c : List Bool) → WasIncluded v.run t c → WasIncluded w.run t c
      included_on t c x = record { client = x.client; claim = x.claim; claimed = x.claimed; told = x.told; is = x.is; cipher = x.cipher }

      abbrev listing_on : (thin : Bool) (listed : List Listed) → IsListing v thin listed → IsListing w thin listed
      listing_on thin listed x = record {
        inventories = x.inventories;
        kept = record { each = x.kept.each; say = λ j i e. more.stays 3 j (kinds.Inventory i) (x.kept.say j i e) };
        trim = x.trim;
        floor = x.floor;
      }

      good_of : (thin : Bool) (listed : List Listed) (x : IsListing v thin listed) → All (AreGood w) x.inventories
      good_of thin listed x k d lt =
          let said = x.kept.say k (get_or x.inventories k d) (slice_get-get_or x.inventories k d lt) in
          let good = run.inventories k (get_or x.inventories k d) said in
          record { r = of_round k (get_or x.inventories k d) said; prev = good.0; verify = good.1 }

      summed_on : (x : Sum) → IsSum v x → IsSum w x
      summed_on x y = record {
        rows = y.rows;
        told = included_grow (IsSaidBy v) (IsSaidBy v) (WasIncluded v.run) (WasIncluded w.run) (λ who t z. z) included_on (course_of v.run) (given_to x.listed v.seat.number) x.own y.told;
        value = y.value ∙ ap (λ o. turned o (server_string v.seat (course_of v.run) x.listed x.own)) h.straight;
      }

      commit_on : (x : Sum) → sum ≡ Some x → IsCommittedTo v x → IsCommittedTo w x
      commit_on x has y = record {
        has = has;
        listing = listing_on false x.listed y.listing;
        good = good_of false x.listed y.listing;
        summed = summed_on x y.summed;
        said = old (commitment_of v x) y.said;
      }

      reveal_on : (x : Sum) → sum ≡ Some x → HasRevealed v x → HasRevealed w x
      reveal_on x has y = record { commit = commit_on x has y.commit; commits = more.all 4 (servers_in v) y.commits; said = old (kinds.Reveal v.run.r x.s) y.said }

  -- all statements of a list are kept
  all_of : {A : Type 0} (make : A → Statement) (kind : ℕ) (xs : List A) (d : A) → AreKept make kind v.run.kept (servers_in v) xs → HasAll kind v.run.kept (servers_in v)
  all_of make kind xs d are j lt =
      let within : j < length xs = omega (arith, lt, are.each) in
      let x = get_or xs j d in
      let found = statement_found (kept_of v.run.kept kind j) (make x) (are.say j x (slice_get-get_or xs j d within)) in
      subst IsSome (sym found.1) refl

  -- what is kept under the own number is what was signed
  own_signed : (s : Statement) → HasSaid v s → IsOwnSigned v (kind_byte s)
  own_signed s x t e = subst (Contains v.signed) (same_Some s t (sym x.kept ∙ e)) x.signed

  -- ---- the inventory

  pub lists_honest : v.run.stage ≡ stages.Collecting → IsFree v (kinds.Inventory (inventory_of v.run))
      → IsHonest (spoke v h (kinds.Inventory (inventory_of v.run)) stages.Listed v.run.sum (next (kinds.Inventory (inventory_of v.run))) v.pasts None)
  lists_honest stage free =
      let s : Statement = kinds.Inventory (inventory_of v.run) in
      let was = at stages.Collecting stage in
      let set = h.set_aside runs in
      spoke_honest v h s stages.Listed v.run.sum (next s) v.pasts None
      (record {
        straight = refl;
        low = above;
        round = refl;
        few = (omega arith, omega arith);
        first = was.0;
        grown = more s;
        one = one s;
        fitting = λ on. fitting s;
        enough = λ on. let four = subst (λ (x : Stage). aside_at x ≤ v.aside) stage set in omega arith;
        moved = λ e. let never = e in cc;
      })
      (record {
        said = (
          new s stages.Listed v.run.sum v.pasts free,
          none_on s stages.Listed v.run.sum v.pasts 4 (λ e. omega (arith, e)) was.1,
          none_on s stages.Listed v.run.sum v.pasts 5 (λ e. omega (arith, e)) was.2,
          none_on s stages.Listed v.run.sum v.pasts 6 (λ e. omega (arith, e)) was.3,
        );
        reveal = λ r x e. absurd (let never = e in cc);
        sign = λ b e. absurd (let never = e in cc);
        past = λ b e. absurd (let never = e in cc);
        pasts_stay = λ past c. c;
        pasts_come = λ past c. inl c;
        found = λ r past e. e;
      })

  -- ---- the commitment

  pub commits_honest : (sum : Sum) → IsCommitDue v sum → IsFree v (commitment_of v sum)
      → IsHonest (spoke v h (commitment_of v sum) stages.Committed (Some sum) (next (commitment_of v sum)) v.pasts None)
  commits_honest sum due free =
      let s : Statement = commitment_of v sum in
      let was = at stages.Listed due.stage in
      let set = h.set_aside runs in
      spoke_honest v h s stages.Committed (Some sum) (next s) v.pasts None
      (record {
        straight = refl;
        low = above;
        round = refl;
        few = (omega arith, omega arith);
        first = was.1;
        grown = more s;
        one = one s;
        fitting = λ on. fitting s;
        enough = λ on. let three = subst (λ (x : Stage). aside_at x ≤ v.aside) due.stage set in omega arith;
        moved = λ e. let never = e in cc;
      })
      (record {
        said = (
          old s stages.Committed (Some sum) v.pasts (kinds.Inventory (inventory_of v.run)) was.0,
          (
            sum,
            record {
              has = refl;
              listing = listing_on s stages.Committed (Some sum) v.pasts false sum.listed due.listing;
              good = good_of s stages.Committed (Some sum) v.pasts false sum.listed due.listing;
              summed = summed_on s stages.Committed (Some sum) v.pasts sum due.summed;
              said = let x = new s stages.Committed (Some sum) v.pasts free in record { signed = x.signed; kept = x.kept };
            },
          ),
          none_on s stages.Committed (Some sum) v.pasts 5 (λ e. omega (arith, e)) was.2,
          none_on s stages.Committed (Some sum) v.pasts 6 (λ e. omega (arith, e)) was.3,
        );
        reveal = λ r x e. absurd (let never = e in cc);
        sign = λ b e. absurd (let never = e in cc);
        past = λ b e. absurd (let never = e in cc);
        pasts_stay = λ past c. c;
        pasts_come = λ past c. inl c;
        found = λ r past e. e;
      })

  -- ---- the ciphertext

  pub reveals_honest : (sum : Sum) → IsRevealDue v sum → IsFree v (kinds.Reveal v.run.r sum.s)
      → IsHonest (spoke v h (kinds.Reveal v.run.r sum.s) stages.Revealed (Some sum) (next (kinds.Reveal v.run.r sum.s)) v.pasts None)
  reveals_honest sum due free =
      let s : Statement = kinds.Reveal v.run.r sum.s in
      let was = at stages.Committed due.stage in
      let same : was.1.0 ≡ sum = same_Some was.1.0 sum (sym was.1.1.has ∙ due.has) in
      let committed : IsCommittedTo v sum = subst (IsCommittedTo v) same was.1.1 in
      let set = h.set_aside runs in
      spoke_honest v h s stages.Revealed (Some sum) (next s) v.pasts None
      (record {
        straight = refl;
        low = above;
        round = refl;
        few = (omega arith, omega arith);
        first = was.2;
        grown = more s;
        one = one s;
        fitting = λ on. fitting s;
        enough = λ on. let two = subst (λ (x : Stage). aside_at x ≤ v.aside) due.stage set in omega arith;
        moved = λ e. let never = e in cc;
      })
      (record {
        said = (
          old s stages.Revealed (Some sum) v.pasts (kinds.Inventory (inventory_of v.run)) was.0,
          (
            sum,
            record {
              commit = commit_on s stages.Revealed (Some sum) v.pasts sum refl committed;
              commits = (more s).all 4 (servers_in v) (all_of (kinds.Commit v.run.r) 4 due.digests [] due.kept);
              said = let x = new s stages.Revealed (Some sum) v.pasts free in record { signed = x.signed; kept = x.kept };
            },
          ),
          none_on s stages.Revealed (Some sum) v.pasts 6 (λ e. omega (arith, e)) was.3,
        );
        reveal = λ r x e.
            let round : v.run.r ≡ r = cc in
            let string : sum.s ≡ x = cc in
            subst (λ (q : Round). Contains v.signed (commit_to v.seat q x)) round (subst (λ (y : List Bool). Contains v.signed (commit_to v.seat v.run.r y)) string committed.said.signed);
        sign = λ b e. absurd (let never = e in cc);
        past = λ b e. absurd (let never = e in cc);
        pasts_stay = λ past c. c;
        pasts_come = λ past c. inl c;
        found = λ r past e. e;
      })

  -- ---- bodies

  -- the own place has the body, where no server signed another one
  body_free : (b : Body) → IsUnopposed v b → IsFree v (kinds.Sign b)
  body_free b un other e =
      let found = statement_found (kept_of v.run.kept 6 v.seat.number) other e in
      let shape = sign_shape found.0.statement (kept_kind v.run.kept 6 v.seat.number found.0 found.1) in
      let is : other ≡ kinds.Sign shape.0 = sym found.2 ∙ shape.1 in
      let same : shape.0 ≡ b = un v.seat.number shape.0 sound.seated.number (e ∙ ap Some is) in
      is ∙ ap kinds.Sign same

  sign_is : (b c : Body) → kinds.Sign b ≡ kinds.Sign c → b ≡ c
  sign_is b c e = cc

  commit_digest : (d e : List ℕ) → Some (kinds.Commit v.run.r d) ≡ Some (kinds.Commit v.run.r e) → d ≡ e
  commit_digest d e x = cc

  reveal_string : (x y : List Bool) → Some (kinds.Reveal v.run.r x) ≡ Some (kinds.Reveal v.run.r y) → x ≡ y
  reveal_string x y e = cc

  module _ (sum : Sum) (b : Body) (due : IsBodyDue v sum b) where
    was : HasSaidInventory v × HasRevealed v sum × HasSaidNone v 6
    was =
        let x = at stages.Revealed due.stage in
        let same : x.1.0 ≡ sum = same_Some x.1.0 sum (sym x.1.1.commit.has ∙ due.has) in
        (x.0, subst (HasRevealed v) same x.1.1, x.2)

    ready : IsReady v sum
    ready =
        let c = was.1.commit in
        record {
          number = sound.seated.number;
          before = run.course.before;
          layout = run.course.layout;
          after = run.course.after;
          bits = run.course.bits_are;
          verify = run.inventories;
          strings = run.strings;
          round = of_round;
          fits = λ j d x commit reveal. fits_at j d x commit reveal;
          listing = c.listing;
          summed = c.summed;
          straight = h.straight;
          own_inventory = own_signed (kinds.Inventory (inventory_of v.run)) was.0;
          own_commit = own_signed (commitment_of v sum) c.said;
          own_reveal = own_signed (kinds.Reveal v.run.r sum.s) was.1.said;
          own_string = was.1.said.kept;
        }
      where
        fits_at : (j : ℕ) (d : List ℕ) (x : List Bool) → statement_of v.run.kept 4 j ≡ Some (kinds.Commit v.run.r d) → statement_of v.run.kept 5 j ≡ Some (kinds.Reveal v.run.r x)
            → d ≡ digest_by (course_of v.run) j x
        fits_at j d x commit reveal = elim (eqb_tells j v.seat.number) [
          | inl same ↦
              let own_commit = subst (λ n. statement_of v.run.kept 4 n ≡ Some (kinds.Commit v.run.r d)) same.1 commit in
              let own_reveal = subst (λ n. statement_of v.run.kept 5 n ≡ Some (kinds.Reveal v.run.r x)) same.1 reveal in
              let digest : d ≡ digest_by (course_of v.run) v.seat.number sum.s = commit_digest d (digest_by (course_of v.run) v.seat.number sum.s) (sym own_commit ∙ was.1.commit.said.kept) in
              let string : x ≡ sum.s = reveal_string x sum.s (sym own_reveal ∙ was.1.said.kept) in
              digest ∙ ap (digest_by (course_of v.run) v.seat.number) (sym string) ∙ ap (λ n. digest_by (course_of v.run) n x) (sym same.1)
          | inr other ↦ h.fitting runs j d x other.1 commit reveal
        ]

    abbrev bits_so : ℕ → Course
    bits_so n = record { r = v.run.r; prev = v.run.prev; bits = n }

    abbrev the_body : Body
    the_body = record { version = v.seat.roster.version; r = v.run.r; prev = v.run.prev; thin = false; listed = sum.listed; digests = due.digests; out = b.out }

    abbrev with_out : List Bool → Body
    with_out o = record { version = v.seat.roster.version; r = v.run.r; prev = v.run.prev; thin = false; listed = sum.listed; digests = due.digests; out = o }

    body_is : the_body ≡ b
    body_is = ap with_out (ap (λ (x : Body). x.out) due.is) ∙ sym due.is

    own_digest : slice_get due.digests v.seat.number ≡ Some (digest_by (course_of v.run) v.seat.number sum.s)
    own_digest =
        let number = sound.seated.number in
        let within : v.seat.number < length due.digests = omega (arith, due.commits.each) in
        let d = get_or due.digests v.seat.number [] in
        let is = slice_get-get_or due.digests v.seat.number [] within in
        is ∙ ap Some (commit_digest d (digest_by (course_of v.run) v.seat.number sum.s) (sym (due.commits.say v.seat.number d is) ∙ was.1.commit.said.kept))

    full_past : IsFullPast v (past_with sum the_body)
    full_past =
        let c = was.1.commit in
        let straight : sum.s ≡ server_string v.seat (course_of v.run) sum.listed sum.own = c.summed.value ∙ ap (λ o. turned o (server_string v.seat (course_of v.run) sum.listed sum.own)) h.straight in
        let n = run.course.bits_are in
        record {
          layout = run.course.layout;
          after = run.course.after;
          long = sum_long v sum c.summed ∙ n;
          rows = subst (λ k. AreOfRows (bits_so k) (given_to sum.listed v.seat.number) sum.own) n c.summed.rows;
          value = subst (λ k. sum.s ≡ server_string v.seat (bits_so k) sum.listed sum.own) n straight;
          digest = own_digest;
        }

    past_is : IsPast v (past_with sum b)
    past_is = subst (λ (x : Body). IsPast v (past_with sum x)) body_is full_past

    pub signs_honest : IsUnopposed v b
        → IsHonest (spoke v h (kinds.Sign b) stages.Signed (Some sum) (next (kinds.Sign b)) (v.pasts ++ past_with sum b ∷ []) None)
    signs_honest un =
        let s : Statement = kinds.Sign b in
        let pasts = v.pasts ++ past_with sum b ∷ [] in
        let round : b.r ≡ v.run.r = ap (λ (x : Body). x.r) due.is in
        spoke_honest v h s stages.Signed (Some sum) (next s) pasts None
        (record {
          straight = refl;
          low = above;
          round = ap Some round;
          few = (omega arith, omega arith);
          first = was.2;
          grown = more s;
          one = one s;
          fitting = λ on. fitting s;
          enough = λ on. omega arith;
          moved = λ e. let never = e in cc;
        })
        (record {
          said = (
            old s stages.Signed (Some sum) pasts (kinds.Inventory (inventory_of v.run)) was.0,
            inr (record {
              sum = sum;
              reveal = reveal_on s stages.Signed (Some sum) pasts sum refl was.1;
              reveals = (more s).all 5 (servers_in v) (all_of (kinds.Reveal v.run.r) 5 due.strings [] due.reveals);
              body = b;
              said = let x = new s stages.Signed (Some sum) pasts (body_free b un) in record { signed = x.signed; kept = x.kept };
            }),
          );
          reveal = λ r x e. absurd (let never = e in cc);
          sign = λ c e. subst (λ (x : Body). Justified (IsSaidBy v) (WasIncluded v.run) v.seat v.chain x) (sign_is b c e) (due_justified v sum b ready due);
          past = λ c e. (past_with sum b, Contains-push v.pasts (past_with sum b), sign_is b c e);
          pasts_stay = λ past c. Contains-append_left v.pasts (past_with sum b ∷ []) past c;
          pasts_come = λ past c.
              elim (Contains-push_cases v.pasts (past_with sum b) past c) [
                | inl was ↦ inl was
                | inr is ↦ inr (ap (λ (x : Past). kinds.Sign x.body) is, subst (IsPast v) is past_is)
              ];
          found = λ r past e. find_stays (λ p. p.body.r.0 == r) v.pasts (past_with sum b) past e;
        })

  thin_ready : v.run.stage ≡ stages.Listed → IsThinReady v
  thin_ready stage = record {
    before = run.course.before;
    layout = run.course.layout;
    after = run.course.after;
    verify = run.inventories;
    round = of_round;
    own_inventory = own_signed (kinds.Inventory (inventory_of v.run)) (at stages.Listed stage).0;
  }

  pub signs_thin_honest : (b : Body) → IsThinDue v b → IsUnopposed v b
      → IsHonest (spoke v h (kinds.Sign b) stages.Signed v.run.sum (next (kinds.Sign b)) (v.pasts ++ thin_past b ∷ []) None)
  signs_thin_honest b due un =
      let s : Statement = kinds.Sign b in
      let pasts = v.pasts ++ thin_past b ∷ [] in
      let listed = at stages.Listed due.stage in
      let round : b.r ≡ v.run.r = ap (λ (x : Body). x.r) due.is in
      let thin : b.thin ≡ true = ap (λ (x : Body). x.thin) due.is in
      let ready : IsThinReady v = thin_ready due.stage in
      spoke_honest v h s stages.Signed v.run.sum (next s) pasts None
      (record {
        straight = refl;
        low = above;
        round = ap Some round;
        few = (omega arith, omega arith);
        first = listed.3;
        grown = more s;
        one = one s;
        fitting = λ on. fitting s;
        enough = λ on. omega arith;
        moved = λ e. let never = e in cc;
      })
      (record {
        said = (
          old s stages.Signed v.run.sum pasts (kinds.Inventory (inventory_of v.run)) listed.0,
          inl (record {
            no_commit = none_on s stages.Signed v.run.sum pasts 4 (λ e. omega (arith, e)) listed.1;
            no_reveal = none_on s stages.Signed v.run.sum pasts 5 (λ e. omega (arith, e)) listed.2;
            listed = due.listed;
            listing = listing_on s stages.Signed v.run.sum pasts true due.listed due.listing;
            body = b;
            said = let x = new s stages.Signed v.run.sum pasts (body_free b un) in record { signed = x.signed; kept = x.kept };
          }),
        );
        reveal = λ r x e. absurd (let never = e in cc);
        sign = λ c e. subst (λ (x : Body). Justified (IsSaidBy v) (WasIncluded v.run) v.seat v.chain x) (sign_is b c e) (thin_justified v b ready due);
        past = λ c e. (thin_past b, Contains-push v.pasts (thin_past b), sign_is b c e);
        pasts_stay = λ past c. Contains-append_left v.pasts (thin_past b ∷ []) past c;
        pasts_come = λ past c.
            elim (Contains-push_cases v.pasts (thin_past b) past c) [
              | inl was ↦ inl was
              | inr is ↦ inr (ap (λ (x : Past). kinds.Sign x.body) is, subst (IsPast v) is (subst (λ t. IsPastAs t v (thin_past b)) (sym thin) (refl, refl)))
            ];
        found = λ r past e. find_stays (λ p. p.body.r.0 == r) v.pasts (thin_past b) past e;
      })

  -- ---- a body that is due is justified, also where it isn't signed

  pub body_justified : (sum : Sum) (b : Body) → IsBodyDue v sum b → Justified (IsSaidBy v) (WasIncluded v.run) v.seat v.chain b
  body_justified sum b due = due_justified v sum b (ready sum b due) due

  pub thin_body_justified : (b : Body) → IsThinDue v b → Justified (IsSaidBy v) (WasIncluded v.run) v.seat v.chain b
  thin_body_justified b due = thin_justified v b (thin_ready due.stage) due
