-- A server that goes on in its round stays sound.
use Rattle.std.proofs.Common.{◌≡◌, ◌≢◌, ℕ, ◌<◌, ◌^◌, Bool, true, false, List, [], ◌∷◌, ◌++◌, length, get_or, Some, None, refl, sym, ap, subst, ◌∙◌, arith, inl, inr}
use Rattle.std.specs.Prelude.{Option, All, Contains, option_map, IsSome, ◌⊎◌, ◌&&◌}
use Rattle.std.proofs.lemmas.List.{length_push}
use Rattle.std.proofs.lemmas.Option.{slice_get-get_or, slice_get_within}
use Rattle.std.proofs.lemmas.Bool.{eq-eqb}
use Rattle.dn_wire.specs.declared.ids.SignerId.{SignerId}
use Rattle.dn_bits.specs.Bits.{bytes_of, sum_bits}
use Rattle.dn_hash.specs.Digests.{server_digest_of}
use Rattle.dn_hash.proofs.DigestLemmas.{length-sha256}
use Rattle.dn_record_types.specs.declared.body.Body.{Body}
use Rattle.dn_record_types.specs.declared.body.Listed.{Listed}
use Rattle.dn_record_types.specs.declared.inventory.Inventory.{Inventory}
use Rattle.dn_record_types.specs.declared.statement.Statement.{Statement}
use Rattle.dn_record_types.specs.declared.statement.Statement.TheVariants as kinds
use Rattle.dn_records.specs.Records.{kind_byte}
use Rattle.dn_seal.specs.Dealt.{server}
use Rattle.dn_seal.specs.Said.{SaidView}
use Rattle.dn_seal.specs.Signer.{CanSign}
use Rattle.dn_bits.proofs.BitLemmas.{IsLong, length-sum_all}
use Rattle.dn_cert.specs.Certificate.{IsOfRoster}
use Rattle.dn_cert.specs.Chain.{CanFollow, with_held}
use Rattle.dn_cert.specs.Trim.{IsOfLeast}
use Rattle.dn_cert.specs.Signed.{EntryVerifies}
use Rattle.dn_server.proofs.Shapes.{sign_shape}
use Rattle.std.proofs.lemmas.List.Elements.{All-weaker, All-contains, All-contains_itself}
use Rattle.dn_server.specs.declared.act.Act.{Act}
use Rattle.dn_server.specs.declared.run.Stage.{Stage}
use Rattle.dn_server.specs.declared.run.Stage.TheVariants as stages
use Rattle.dn_server.specs.declared.run.Sum.{Sum}
use Rattle.dn_server.specs.declared.past.Past.{Past}
use Rattle.dn_server.specs.Justified.{servers_of, digest_by}
use Rattle.dn_server.specs.Server.{ServerView, is_server, is_of, kept_of, statement_of, said_next, course_of, ended, AreKept}
use Rattle.dn_server.specs.Keeping.{round_of, HasAll}
use Rattle.dn_server.proofs.SaidLemmas.{said_by-said}
use Rattle.dn_server.proofs.KeptLemmas.{kept_kind}
use Rattle.dn_rounds.specs.Going.{IsFree, HasLeaf, IsListing, IsCommitDue, IsRevealDue, IsBodyDue, IsThinDue, IsUnopposed, says, with_own, commitment_of, past_with, thin_past, Step, Steps}
use Rattle.dn_rounds.specs.Going.Step.{commits, reveals, signs, signs_thin, certifies, commit_conflicts, reveal_conflicts, body_opposed, thin_opposed}
use Rattle.dn_rounds.specs.Going.Steps.{no_step, one_more}
use Rattle.dn_rounds.proofs.Lengths.{can_commit, can_reveal}
use Rattle.dn_rounds.proofs.SumLemmas.{sum_long}
use Rattle.dn_exchange.specs.Invariant.{IsSound, IsRunning, IsAtStage, IsDataList, HasSigned, Standing, standing_of}
use Rattle.dn_exchange.specs.Closing.{inventory_of}
use Rattle.dn_exchange.proofs.EndSound.{ended_on, ended_sound}
use Rattle.dn_exchange.proofs.HoldSound.{group_body, group_more}
use Rattle.dn_exchange.proofs.ReadyLemmas.{client_within, thin_fits, full_fits}
use Rattle.dn_exchange.proofs.KeptSound.{IsGood, runs_with, statement_stays, statement_comes, find_new, statement_found}

-- what is kept once the server has said a statement of its round
pub record Grown (x : Standing) (own : ℕ) (s : Statement) (kept : List SaidView) : Type 0 where
  pub running : IsRunning (record x { kept = kept })
  pub stays : (kind j : ℕ) (t : Statement) → statement_of x.kept kind j ≡ Some t → statement_of kept kind j ≡ Some t
  pub own_there : statement_of kept (kind_byte s) own ≡ Some s
  pub comes : (kind j : ℕ) (t : Statement) → statement_of kept kind j ≡ Some t → (statement_of x.kept kind j ≡ Some t) ⊎ (s ≡ t)

server_is : (j : ℕ) (y : SaidView) (kind : ℕ) → y.signer ≡ server j → kind_byte y.statement ≡ kind → is_of kind j y ≡ true
server_is j y kind e k =
    let by = subst (λ (w : SignerId). is_server j w ≡ true) (sym e) (eq-eqb j j refl) in
    let of = eq-eqb (kind_byte y.statement) kind k in
    (λ i. by i && of i)

module _ (x : Standing) (y : SaidView) (s : Statement) (is : y.statement ≡ s) (by_own : y.signer ≡ server x.seat.number) (good : IsGood x y) (running : IsRunning x)
    (free : (other : Statement) → statement_of x.kept (kind_byte s) x.seat.number ≡ Some other → other ≡ s) where
  pub grown : (o : Option SaidView) → kept_of x.kept (kind_byte s) x.seat.number ≡ o → Grown x x.seat.number s (with_own o x.kept y)
  grown None e = record {
    running = runs_with x y good running;
    stays = statement_stays x.kept y;
    own_there =
        ap (option_map (λ (z : SaidView). z.statement)) (find_new (is_of (kind_byte s) x.seat.number) x.kept y e (server_is x.seat.number y (kind_byte s) by_own (ap kind_byte is))) ∙ ap Some is;
    comes = λ kind j t h. elim (statement_comes x.kept y kind j t h) [ inl old ↦ inl old | inr new ↦ inr (sym is ∙ new.0) ];
  }
  grown (Some other) e = record {
    running = running;
    stays = λ kind j t h. h;
    own_there =
        let there : statement_of x.kept (kind_byte s) x.seat.number ≡ Some other.statement = ap (option_map (λ (z : SaidView). z.statement)) e in
        there ∙ ap Some (free other.statement there);
    comes = λ kind j t h. inl h;
  }

-- ---- the server says a statement of its round

module _ (v : ServerView) (sound : IsSound v) (runs : v.run.is_running ≡ true) where
  now : IsRunning (standing_of v)
  now = sound.running runs

  pub low_number : v.seat.number < 2 ^ 32
  low_number = let servers = sound.seated.roster.servers in omega (arith, sound.seated.number, servers.1)

  module _ (s : Statement) (can : CanSign (server v.seat.number) s) (leaf : HasLeaf v) (round : round_of s ≡ Some v.run.r)
      (isnt_inventory : (inventory : Inventory) → s ≡ kinds.Inventory inventory → (inventory.prev ≡ v.run.prev) × All (EntryVerifies v.seat.roster v.run.r v.run.prev) inventory.entries)
      (long : (x : List Bool) → s ≡ kinds.Reveal v.run.r x → length x ≡ v.run.bits) (before : v.run.stage ≢ stages.Signed) where
    own : SaidView
    own = said_next v s

    good : IsGood (standing_of v) own
    unfolding own
    good = record {
      round = round;
      said = said_by-said v.seat.roster v.seat.number v.key (length v.signed) s sound.is_key leaf can;
      under = (refl, sound.member);
      inventory = isnt_inventory;
      string = long;
      body = λ o b at kept is. absurd (before at);
    }

    -- what is kept then
    pub grows : (free : IsFree v s) → Grown (standing_of v) v.seat.number s (with_own (kept_of v.run.kept (kind_byte s) v.seat.number) v.run.kept (said_next v s))
    unfolding own
    grows free = grown (standing_of v) own s refl refl good now free (kept_of v.run.kept (kind_byte s) v.seat.number) refl

  -- it stays sound, where the round does
  pub says_sound : (s : Statement) (stage : Stage) (sum : Option Sum) → HasLeaf v → v.run.window.closed ≡ true → IsRunning (standing_of (says v s stage sum)) → IsSound (says v s stage sum)
  says_sound s stage sum leaf shut running = record {
    seated = record { roster = sound.seated.roster; number = sound.seated.number; seeds = sound.seated.seeds };
    member = sound.member;
    is_key = sound.is_key;
    workers = sound.workers;
    slots = sound.slots;
    in_group = sound.in_group;
    window = sound.window;
    claims = sound.claims;
    are_claims = sound.are_claims;
    claimed = sound.claimed;
    is_open = λ e. absurd (apart (sym shut ∙ e));
    round = running.kept.round;
    aside = λ b. omega (arith, sound.aside b, leaf, length_push v.signed s);
    some_aside = λ b e. absurd (apart (sym shut ∙ e));
    running = λ e. running;
  }
    where
      apart : true ≡ false → ⊥
      apart h = cc

-- ---- what a server's round doesn't rest on

rewrapped : (v : ServerView) (bend : Option ℕ) (pasts : List Past) → IsSound v → IsSound (record v { bend = bend; pasts = pasts })
rewrapped v bend pasts s = record {
  seated = record { roster = s.seated.roster; number = s.seated.number; seeds = s.seated.seeds };
  member = s.member;
  is_key = s.is_key;
  workers = s.workers;
  slots = s.slots;
  in_group = s.in_group;
  window = s.window;
  claims = s.claims;
  are_claims = s.are_claims;
  claimed = s.claimed;
  is_open = s.is_open;
  round = s.round;
  aside = s.aside;
  some_aside = s.some_aside;
  running = s.running;
}

-- ---- the steps

-- a server's digest has 32 bytes
pub server_digest_long : (r j : ℕ) (s : List ℕ) → length (server_digest_of r j s) ≡ 32
unfolding server_digest_of
server_digest_long r j s = length-sha256 _

same_sum : (a b : Sum) → Some a ≡ Some b → a ≡ b
same_sum a b e = cc

same_body : (b c : Body) → kinds.Sign b ≡ kinds.Sign c → c ≡ b
same_body b c e = let one : b ≡ c = cc in sym one

all_from : (kept : List SaidView) (kind n : ℕ) (make : List ℕ → Statement) (xs : List (List ℕ)) → AreKept make kind kept n xs → HasAll kind kept n
all_from kept kind n make xs are j lt =
    let within : j < length xs = omega (arith, lt, are.each) in
    let x = get_or xs j [] in
    let found = statement_found (kept_of kept kind j) (make x) (are.say j x (slice_get-get_or xs j [] within)) in
    subst IsSome (sym found.1) refl

module _ (v : ServerView) (sound : IsSound v) (runs : v.run.is_running ≡ true) where
  run : IsRunning (standing_of v)
  run = sound.running runs

  at : (s : Stage) → v.run.stage ≡ s → IsAtStage s (standing_of v)
  at s e = subst (λ (x : Stage). IsAtStage x (standing_of v)) e run.stage

  shut : (s : Stage) → v.run.stage ≡ s → s ≢ stages.Collecting → v.run.window.closed ≡ true
  shut s e other = by v.run.window.closed refl
    where
      by : (b : Bool) → v.run.window.closed ≡ b → b ≡ true
      by true h = refl
      by false h = absurd (other (sym e ∙ (sound.is_open h).1))

  lists_on : {A : Type 0} (make : A → Statement) (kind n : ℕ) (xs : List A) (s : Statement) (kept : List SaidView) → Grown (standing_of v) v.seat.number s kept
      → AreKept make kind v.run.kept n xs → AreKept make kind kept n xs
  lists_on make kind n xs s kept g are = record { each = are.each; say = λ j x there. g.stays kind j (make x) (are.say j x there) }

  data_on : (listed : List Listed) (s : Statement) (kept : List SaidView) → Grown (standing_of v) v.seat.number s kept → IsListing v false listed
      → IsDataList (record (standing_of v) { kept = kept }) listed
  data_on listed s kept g l = record {
    inventories = l.inventories;
    kept = lists_on kinds.Inventory 3 (servers_of v.seat) l.inventories s kept g l.kept;
    trim = l.trim;
    floor = l.floor;
  }

  next_of : Statement → List SaidView
  next_of s = with_own (kept_of v.run.kept (kind_byte s) v.seat.number) v.run.kept (said_next v s)

  no_inventory : (s : Statement) → kind_byte s ≢ 3 → (inventory : Inventory) → s ≡ kinds.Inventory inventory
      → (inventory.prev ≡ v.run.prev) × All (EntryVerifies v.seat.roster v.run.r v.run.prev) inventory.entries
  no_inventory s other inventory e = absurd (other (ap kind_byte e))

  no_string : (s : Statement) → kind_byte s ≢ 5 → (x : List Bool) → s ≡ kinds.Reveal v.run.r x → length x ≡ v.run.bits
  no_string s other x e = absurd (other (ap kind_byte e))

  all_on : (kind n : ℕ) (s : Statement) (kept : List SaidView) → Grown (standing_of v) v.seat.number s kept → HasAll kind v.run.kept n → HasAll kind kept n
  all_on kind n s kept g has j lt = by (kept_of v.run.kept kind j) refl (has j lt)
    where
      by : (o : Option SaidView) → kept_of v.run.kept kind j ≡ o → IsSome o → IsSome (kept_of kept kind j)
      by None e h = absurd (let never = h in cc)
      by (Some said) e h =
          let there = g.stays kind j said.statement (ap (option_map (λ (z : SaidView). z.statement)) e) in
          let found = statement_found (kept_of kept kind j) said.statement there in
          subst IsSome (sym found.1) refl

  -- a commitment
  commits_sound : (sum : Sum) → IsCommitDue v sum → IsFree v (commitment_of v sum) → HasLeaf v → IsSound (says v (commitment_of v sum) stages.Committed (Some sum))
  unfolding next_of
  commits_sound sum due free leaf =
      let s = commitment_of v sum in
      let h = at stages.Listed due.stage in
      let can = can_commit v.seat.number v.run.r (digest_by (course_of v.run) v.seat.number sum.s) (low_number v sound runs) run.course.small (server_digest_long v.run.r.0 v.seat.number (bytes_of sum.s)) in
      let isnt : v.run.stage ≢ stages.Signed = λ e. let both = sym due.stage ∙ e in cc in
      let g = grows v sound runs s can leaf refl (no_inventory s (λ e. omega (arith, e))) (no_string s (λ e. omega (arith, e))) isnt free in
      says_sound v sound runs s stages.Committed (Some sum) leaf (shut stages.Listed due.stage (λ e. cc))
      (record {
        course = run.course;
        kept = g.running.kept;
        inventories = g.running.inventories;
        strings = g.running.strings;
        stage = (
          g.stays 3 v.seat.number (kinds.Inventory (inventory_of v.run)) h,
          record { sum = sum; has = refl; long = sum_long v sum due.summed; listing = let d = data_on sum.listed s (next_of s) g due.listing in record { inventories = d.inventories; kept = d.kept; trim = d.trim; floor = d.floor } },
        );
      })

  -- a ciphertext
  reveals_sound : (sum : Sum) → IsRevealDue v sum → IsFree v (kinds.Reveal v.run.r sum.s) → HasLeaf v → IsSound (says v (kinds.Reveal v.run.r sum.s) stages.Revealed (Some sum))
  unfolding next_of
  reveals_sound sum due free leaf =
      let s : Statement = kinds.Reveal v.run.r sum.s in
      let h = at stages.Committed due.stage in
      let same : h.1.sum ≡ sum = same_sum h.1.sum sum (sym h.1.has ∙ due.has) in
      let long : length sum.s ≡ v.run.bits = ap (λ (x : Sum). length x.s) (sym same) ∙ h.1.long in
      let can = can_reveal v.seat.number v.run.r sum.s (low_number v sound runs) run.course.small (omega (arith, long, run.course.few)) in
      let isnt : v.run.stage ≢ stages.Signed = λ e. let both = sym due.stage ∙ e in cc in
      let g = grows v sound runs s can leaf refl (no_inventory s (λ e. omega (arith, e))) (λ x e. let here : x ≡ sum.s = same_string x e in ap length here ∙ long) isnt free in
      let all = all_from v.run.kept 4 (servers_of v.seat) (kinds.Commit v.run.r) due.digests due.kept in
      says_sound v sound runs s stages.Revealed (Some sum) leaf (shut stages.Committed due.stage (λ e. cc))
      (record {
        course = run.course;
        kept = g.running.kept;
        inventories = g.running.inventories;
        strings = g.running.strings;
        stage = (
          g.stays 3 v.seat.number (kinds.Inventory (inventory_of v.run)) h.0,
          record {
            sum = sum;
            has = refl;
            long = long;
            listing =
                let l : IsListing v false h.1.sum.listed = record { inventories = h.1.listing.inventories; kept = h.1.listing.kept; trim = h.1.listing.trim; floor = h.1.listing.floor } in
                let d = data_on sum.listed s (next_of s) g (subst (λ (x : Sum). IsListing v false x.listed) same l) in
                record { inventories = d.inventories; kept = d.kept; trim = d.trim; floor = d.floor };
          },
          all_on 4 (servers_of v.seat) s (next_of s) g all,
        );
      })
    where
      same_string : (x : List Bool) → kinds.Reveal v.run.r sum.s ≡ kinds.Reveal v.run.r x → x ≡ sum.s
      same_string x e = let one : sum.s ≡ x = cc in sym one

  -- the own place has the body, where no server signed another one
  own_free : (b : Body) → IsUnopposed v b → IsFree v (kinds.Sign b)
  own_free b un other e =
      let found = statement_found (kept_of v.run.kept 6 v.seat.number) other e in
      let shape = sign_shape found.0.statement (kept_kind v.run.kept 6 v.seat.number found.0 found.1) in
      let is : other ≡ kinds.Sign shape.0 = sym found.2 ∙ shape.1 in
      let one : shape.0 ≡ b = un v.seat.number shape.0 sound.seated.number (e ∙ ap Some is) in
      is ∙ ap kinds.Sign one

  -- a body that was signed
  signed_with : (b : Body) (kept : List SaidView) → Grown (standing_of v) v.seat.number (kinds.Sign b) kept → IsUnopposed v b → IsOfRoster v.seat.roster b → b.r ≡ v.run.r
      → CanFollow v.chain b → (sum : Option Sum) → HasSigned (record (standing_of v) { kept = kept; sum = sum; stage = stages.Signed })
  signed_with b kept g un group round follows sum = record {
    body = b;
    kept = g.own_there;
    unopposed = λ j c lt e. elim (g.comes 6 j (kinds.Sign c) e) [ inl old ↦ un j c lt old | inr same ↦ same_body b c same ];
    group = group;
    round = round;
    follows = follows;
  }

  -- the rows of a list are of the group
  rows_within : (thin : Bool) (listed : List Listed) → IsListing v thin listed → All (λ (l : Listed). (l.client.0 < length v.seat.roster.clients) × (l.server.0 < length v.seat.roster.servers)) listed
  rows_within thin listed l =
      All-weaker (Contains listed) (λ (x : Listed). (x.client.0 < length v.seat.roster.clients) × (x.server.0 < length v.seat.roster.servers))
      (λ x c.
      let least = All-contains (IsOfLeast l.inventories) listed x l.trim.least c in
      let by = slice_get_within l.inventories x.server.0 least.inventory least.there in
      (client_within v sound run thin listed l x c, omega (arith, by, l.kept.each)))
      listed (All-contains_itself listed)

  -- a body with data
  signs_sound : (sum : Sum) (b : Body) → IsBodyDue v sum b → IsUnopposed v b → HasLeaf v → IsSound (says v (kinds.Sign b) stages.Signed (Some sum))
  unfolding next_of
  signs_sound sum b due un leaf =
      let s : Statement = kinds.Sign b in
      let h = at stages.Revealed due.stage in
      let same : h.1.sum ≡ sum = same_sum h.1.sum sum (sym h.1.has ∙ due.has) in
      let first : IsListing v false h.1.sum.listed = record { inventories = h.1.listing.inventories; kept = h.1.listing.kept; trim = h.1.listing.trim; floor = h.1.listing.floor } in
      let listing : IsListing v false sum.listed = subst (λ (x : Sum). IsListing v false x.listed) same first in
      let can = full_fits v sound run h.1 sum b due in
      let isnt : v.run.stage ≢ stages.Signed = λ e. let both = sym due.stage ∙ e in cc in
      let round : b.r ≡ v.run.r = ap (λ (x : Body). x.r) due.is in
      let g = grows v sound runs s can leaf (ap Some round) (no_inventory s (λ e. omega (arith, e))) (no_string s (λ e. omega (arith, e))) isnt (own_free b un) in
      let out = sum_bits v.run.bits due.strings in
      let plain : Body = record { version = v.seat.roster.version; r = v.run.r; prev = v.run.prev; thin = false; listed = sum.listed; digests = due.digests; out = out } in
      let strings : All (IsLong v.run.bits) due.strings =
      λ k d lt. run.strings k (get_or due.strings k d) (due.reveals.say k (get_or due.strings k d) (slice_get-get_or due.strings k d lt)) in
      let group : IsOfRoster v.seat.roster plain = record { of_version = refl; digests = due.commits.each; listed = rows_within false sum.listed listing; after = run.course.before } in
      let follows : CanFollow v.chain plain = record {
        new = run.course.unheld;
        layout = run.course.layout;
        after = run.course.after;
        floor = sym listing.floor;
        long = length-sum_all v.run.bits due.strings strings ∙ run.course.bits_are;
      } in
      says_sound v sound runs s stages.Signed (Some sum) leaf (shut stages.Revealed due.stage (λ e. cc))
      (record {
        course = run.course;
        kept = g.running.kept;
        inventories = g.running.inventories;
        strings = g.running.strings;
        stage = (
          g.stays 3 v.seat.number (kinds.Inventory (inventory_of v.run)) h.0,
          signed_with b (next_of s) g un (subst (IsOfRoster v.seat.roster) (sym due.is) group) round (subst (CanFollow v.chain) (sym due.is) follows) (Some sum),
        );
      })

  -- a body without data
  signs_thin_sound : (b : Body) → IsThinDue v b → IsUnopposed v b → HasLeaf v → IsSound (says v (kinds.Sign b) stages.Signed v.run.sum)
  unfolding next_of
  signs_thin_sound b due un leaf =
      let s : Statement = kinds.Sign b in
      let h = at stages.Listed due.stage in
      let can = thin_fits v sound run b due in
      let isnt : v.run.stage ≢ stages.Signed = λ e. let both = sym due.stage ∙ e in cc in
      let round : b.r ≡ v.run.r = ap (λ (x : Body). x.r) due.is in
      let g = grows v sound runs s can leaf (ap Some round) (no_inventory s (λ e. omega (arith, e))) (no_string s (λ e. omega (arith, e))) isnt (own_free b un) in
      let plain : Body = record { version = v.seat.roster.version; r = v.run.r; prev = v.run.prev; thin = true; listed = due.listed; digests = []; out = [] } in
      let group : IsOfRoster v.seat.roster plain = record { of_version = refl; digests = refl; listed = rows_within true due.listed due.listing; after = run.course.before } in
      let follows : CanFollow v.chain plain = record { new = run.course.unheld; layout = run.course.layout; after = run.course.after; floor = sym due.listing.floor; long = refl } in
      says_sound v sound runs s stages.Signed v.run.sum leaf (shut stages.Listed due.stage (λ e. cc))
      (record {
        course = run.course;
        kept = g.running.kept;
        inventories = g.running.inventories;
        strings = g.running.strings;
        stage = (
          g.stays 3 v.seat.number (kinds.Inventory (inventory_of v.run)) h,
          signed_with b (next_of s) g un (subst (IsOfRoster v.seat.roster) (sym due.is) group) round (subst (CanFollow v.chain) (sym due.is) follows) v.run.sum,
        );
      })

  pub step_sound : (did : List Act) (w : ServerView) → Step v did w → IsSound w
  step_sound did w (commits sum due free leaf e f) = subst IsSound (sym f) (rewrapped (says v (commitment_of v sum) stages.Committed (Some sum)) None v.pasts (commits_sound sum due free leaf))
  step_sound did w (reveals sum due free leaf e f) = subst IsSound (sym f) (reveals_sound sum due free leaf)
  step_sound did w (signs sum b due un leaf e f) =
      subst IsSound (sym f) (rewrapped (says v (kinds.Sign b) stages.Signed (Some sum)) v.bend (v.pasts ++ past_with sum b ∷ []) (signs_sound sum b due un leaf))
  step_sound did w (signs_thin b due un leaf e f) =
      subst IsSound (sym f) (rewrapped (says v (kinds.Sign b) stages.Signed v.run.sum) v.bend (v.pasts ++ thin_past b ∷ []) (signs_thin_sound b due un leaf))
  step_sound did w (certifies b c agreed of can e f) =
      subst IsSound (sym f)
      (ended_on v sound (with_held c.body v.chain.held) (group_more v.seat.roster c.body v.chain.held sound.in_group (group_body v.seat.roster c of.certificate of.under)))
  step_sound did w (commit_conflicts sum other due c e f) = subst IsSound (sym f) (rewrapped (ended v) None v.pasts (ended_sound v sound))
  step_sound did w (reveal_conflicts sum other due c e f) = subst IsSound (sym f) (ended_sound v sound)
  step_sound did w (body_opposed sum b j other due o e f) = subst IsSound (sym f) (ended_sound v sound)
  step_sound did w (thin_opposed b j other due o e f) = subst IsSound (sym f) (ended_sound v sound)

-- any number of steps
pub steps_sound : (v : ServerView) (did : List Act) (w : ServerView) → IsSound v → Steps v did w → IsSound w
steps_sound v did w s (no_step e f) = subst IsSound (sym f) s
steps_sound v did w s (one_more first rest between runs step others e) = steps_sound between rest w (step_sound v s runs first between step) others
