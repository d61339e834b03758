-- What a sound book's tables keep, so that no later call has to look again.
use Rattle.std.specs.Prelude.{◌≡◌, ℕ, ◌*◌, ◌<◌, ◌≤◌, Bool, true, false, ◌||◌, length, ◌==◌, nat_lt, slice_index_or}
use Rattle.books.specs.Tables.{Tables, class, closed, kind_of, next_mode, start_state}

-- a table's entry names something below n, or is 255 for none
abbrev pub below_or_none : ℕ → ℕ → Bool
below_or_none n x = nat_lt x n || x == 255

pub record Sound (t : Tables) : Type 0 where
  -- the number of rules, each a pair in the rule table
  pub rules : ℕ
  pub some_state : 1 ≤ length t.accepts
  pub few_states : length t.accepts ≤ 128
  pub some_class : 1 ≤ t.width
  pub few_classes : t.width ≤ 32
  pub some_mode : 1 ≤ length t.starts
  pub few_modes : length t.starts ≤ 16
  pub some_rule : 1 ≤ rules
  pub few_rules : rules ≤ 64
  pub each_code : length t.classes ≡ 256
  pub each_step : length t.steps ≡ length t.accepts * t.width
  pub each_rule : length t.rules ≡ 2 * rules
  pub class_below : (x : ℕ) → x < 256 → class t x < t.width
  pub step_below : (i : ℕ) → i < length t.steps → below_or_none (length t.accepts) (slice_index_or t.steps i 255) ≡ true
  pub accept_below : (s : ℕ) → s < length t.accepts → below_or_none rules (slice_index_or t.accepts s 255) ≡ true
  pub rule_kind : (r : ℕ) → r < rules → 2 ≤ kind_of t r
  pub rule_mode : (r : ℕ) → r < rules → next_mode t r < length t.starts
  pub start_below : (m : ℕ) → m < length t.starts → start_state t m < length t.accepts
  pub start_open : (m : ℕ) → m < length t.starts → closed t (start_state t m) ≡ false
