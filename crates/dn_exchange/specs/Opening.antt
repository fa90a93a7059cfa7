-- What a server answers that is to open a round, and what it is afterwards.
use Rattle.std.specs.Prelude.{◌≡◌, ℕ, ◌<◌, ◌≤◌, ◌%◌, ◌^◌, ◌⊎◌, ◌==◌, true, false, List, [], ◌∷◌, length, replicate, count_by, None}
use Rattle.dn_wire.specs.declared.ids.Round.{Round}
use Rattle.dn_bits.specs.Bits.{below}
use Rattle.dn_layout.specs.Layout.{bits_of}
use Rattle.dn_window.specs.Window.{opened}
use Rattle.dn_cert.specs.Chain.{Holds, IsLatestBelow, IsLayoutAfter}
use Rattle.dn_server.specs.declared.act.Act.TheVariants as acts
use Rattle.dn_server.specs.declared.answer.Answer.{Answer}
use Rattle.dn_server.specs.declared.answer.Reason.TheVariants as reasons
use Rattle.dn_server.specs.declared.run.Run.{Run}
use Rattle.dn_server.specs.declared.run.Stage.TheVariants as stages
use Rattle.dn_server.specs.Justified.{Seat, servers_of}
use Rattle.dn_server.specs.Server.{ServerView, left_of}
use Rattle.dn_server.specs.Answers.{ignored, does}

-- how many of so many clients send to server j, of so many servers
abbrev pub expected_at : ℕ → ℕ → ℕ → ℕ
expected_at clients servers j = count_by (λ i. i % servers == j) (below clients)

-- how many clients send to the server
abbrev pub expected_by : Seat → ℕ
expected_by seat = expected_at (length seat.roster.clients) (servers_of seat) seat.number

-- the record of a round that was opened just now
abbrev pub fresh_run : ℕ → ℕ → Round → Round → ℕ → Run
fresh_run clients expected r prev bits = record {
  r = r;
  prev = prev;
  bits = bits;
  is_running = true;
  stage = stages.Collecting;
  window = opened clients expected;
  claims = replicate clients None;
  kept = [];
  sum = None;
}

-- the round was opened before, or a certificate of it is held
abbrev pub IsOld : ServerView → Round → Type 0
IsOld v r = (r.0 ≤ v.run.r.0) ⊎ Holds v.chain r.0

-- The first of these that is so; a round that is opened has four leaves set aside, and follows the greatest round below it that is held.
pub data Opens (v : ServerView) (r : Round) (answer : Answer) (after : ServerView) : Type 0 where
  is_old : IsOld v r → answer ≡ ignored reasons.Old → after ≡ v → Opens v r answer after
  is_running : (¬ IsOld v r) → v.run.is_running ≡ true → answer ≡ ignored reasons.Running → after ≡ v → Opens v r answer after
  is_spent : (¬ IsOld v r) → v.run.is_running ≡ false → left_of v < 4 → answer ≡ ignored reasons.Spent → after ≡ v → Opens v r answer after
  opens : (prev : Round) (layout : List ℕ) → (¬ IsOld v r) → v.run.is_running ≡ false → 4 ≤ left_of v
      → IsLatestBelow v.chain r.0 prev.0 → IsLayoutAfter v.chain prev.0 layout
      → answer ≡ does (acts.Opened r prev ∷ [])
      → after ≡ record v { aside = 4; run = fresh_run (length v.seat.roster.clients) (expected_by v.seat) r prev (bits_of layout) }
      → Opens v r answer after

-- the round has no more bits and no greater number than a round can have
abbrev pub IsSmall : Run → Type 0
IsSmall run = (run.bits ≤ 65536) × (run.r.0 < 2 ^ 64)
