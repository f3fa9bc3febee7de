-- The table of a ladder has the ladder's entries, and keeps the laws.
use Rattle.std.proofs.Common.{◌≡◌, ℕ, ◌+◌, ◌*◌, ◌/◌, ◌%◌, ◌<◌, length, get_or, map, ◌∙◌, ap, subst, sym, arith}
use Rattle.std.specs.List.{flat_map, range_with_len}
use Rattle.std.proofs.Math.Nat.{div-add-mod, div-lt_iff_lt-mul, mod-lt}
use Rattle.std.proofs.lemmas.List.FromFn.{get_or-range_with_len, get_or-map-range_with_len, length-range_with_len, length-map-range_with_len}
use Rattle.action_tables.specs.Table.{HasSizes, IsTable, KeepsLaws, ActsUpward, Commute, Exchange, ActAlike, Distribute, act_of, level_of, next_of, op_count}
use Rattle.flag_crdts.specs.Ladder.{IsLadderSize, ladder_act, ladder_level, ladder_next, ladder_table}
use Rattle.flag_crdts.specs.LadderLaws as laws
use Rattle.flag_crdts.proofs.Rows.{flat_map_at, length-flat_map}

module _ (n : ℕ) where
  pub count : op_count (ladder_table n) ≡ 2 * n
  count = length-map-range_with_len (ladder_level n) 0 (2 * n)

  pub level_at : (o : ℕ) → o < 2 * n → level_of (ladder_table n) o ≡ ladder_level n o
  level_at o h = get_or-map-range_with_len (ladder_level n) 0 (2 * n) o o 0 h (omega arith)

  -- a row of a grid has its width
  row_width : (f : ℕ → ℕ → ℕ) (w k : ℕ) → k < length (range_with_len 0 (2 * n))
      → length (map (f (get_or (range_with_len 0 (2 * n)) k 0)) (range_with_len 0 w)) ≡ w
  row_width f w k h = length-map-range_with_len (f (get_or (range_with_len 0 (2 * n)) k 0)) 0 w

  -- an entry of a grid of as many rows as there are operations
  grid_at : (f : ℕ → ℕ → ℕ) (w i j : ℕ) → i < 2 * n → j < w
      → get_or (flat_map (λ o. map (f o) (range_with_len 0 w)) (range_with_len 0 (2 * n))) (i * w + j) 0 ≡ f i j
  grid_at f w i j h k =
      let len : length (range_with_len 0 (2 * n)) ≡ 2 * n = length-range_with_len 0 (2 * n) in
      let row : get_or (range_with_len 0 (2 * n)) i 0 ≡ 0 + i = get_or-range_with_len 0 (2 * n) i 0 h in
      let same : get_or (range_with_len 0 (2 * n)) i 0 ≡ i = omega (arith, row) in
      flat_map_at (λ o. map (f o) (range_with_len 0 w)) w 0 (range_with_len 0 (2 * n)) i j (row_width f w) (omega (arith, len, h)) k
      ∙ rw same (get_or-map-range_with_len (f i) 0 w j j 0 k (omega arith))

  grid_length : (f : ℕ → ℕ → ℕ) (w : ℕ) → length (flat_map (λ o. map (f o) (range_with_len 0 w)) (range_with_len 0 (2 * n))) ≡ (2 * n) * w
  grid_length f w =
      let len : length (range_with_len 0 (2 * n)) ≡ 2 * n = length-range_with_len 0 (2 * n) in
      length-flat_map (λ o. map (f o) (range_with_len 0 w)) w 0 (range_with_len 0 (2 * n)) (row_width f w) ∙ ap (λ k. k * w) len

  -- what holds of each entry of a grid holds at each of its places
  grid_low : (f : ℕ → ℕ → ℕ) (w top : ℕ) → 0 < w → ((i j : ℕ) → i < 2 * n → j < w → f i j < top) → (k : ℕ) → k < (2 * n) * w
      → get_or (flat_map (λ o. map (f o) (range_with_len 0 w)) (range_with_len 0 (2 * n))) k 0 < top
  grid_low f w top some low k h =
      let row : k / w < 2 * n = (div-lt_iff_lt-mul some).1 h in
      let column : k % w < w = mod-lt k some in
      let place : (k / w) * w + k % w ≡ k = grind (arith, div-add-mod k w) in
      let at = grid_at f w (k / w) (k % w) row column in
      let entry : get_or (flat_map (λ o. map (f o) (range_with_len 0 w)) (range_with_len 0 (2 * n))) k 0 ≡ f (k / w) (k % w) =
      subst (λ i. get_or (flat_map (λ o. map (f o) (range_with_len 0 w)) (range_with_len 0 (2 * n))) i 0 ≡ f (k / w) (k % w)) place at in
      omega (arith, entry, low (k / w) (k % w) row column)

  pub next_at : (s o : ℕ) → s < n → o < 2 * n → next_of (ladder_table n) s o ≡ ladder_next n s o
  next_at s o h k = grid_at (λ o s. ladder_next n s o) n o s k h

  pub act_at : (y x : ℕ) → y < 2 * n → x < 2 * n → act_of (ladder_table n) y x ≡ ladder_act n y x
  act_at y x h k = rw count (grid_at (ladder_act n) (2 * n) y x h k)

module _ (n : ℕ) (size : IsLadderSize n) where
  sizes : HasSizes (ladder_table n)
  sizes = record {
    some_states = omega (arith, size.some);
    most_states = omega (arith, size.most);
    some_ops = omega (arith, count n, size.some);
    most_ops = omega (arith, count n, size.most);
    starts = omega (arith, size.some);
    next_length = grid_length n (λ o s. ladder_next n s o) n ∙ ap (λ k. k * n) (sym (count n));
    act_length = grid_length n (ladder_act n) (2 * n) ∙ ap (λ k. k * k) (sym (count n));
  }

  -- an operation of the table is one of the ladder
  op : (o : ℕ) → o < op_count (ladder_table n) → o < 2 * n
  op o h = omega (arith, count n, h)

  pub is_table : IsTable (ladder_table n)
  is_table = record {
    sizes = sizes;
    levels = record {
      low = λ o h. omega (arith, level_at n o (op o h));
      high = λ o h. omega (arith, level_at n o (op o h), laws.level_top n o (op o h), size.most);
    };
    entries = record {
      next = λ i h. grid_low n (λ o s. ladder_next n s o) n n (omega (arith, size.some)) (λ o s _ k. laws.next_low n s o k) i
          (omega (arith, grid_length n (λ o s. ladder_next n s o) n, h));
      act = λ i h. omega (
        arith,
        count n,
        grid_low n (ladder_act n) (2 * n) (2 * n) (omega (arith, size.some)) (λ y x _ k. laws.act_low n y x k) i
            (omega (arith, grid_length n (ladder_act n) (2 * n), h)),
      );
    };
  }

  -- two operations after one another
  next_twice : (s x y : ℕ) → s < n → x < 2 * n → y < 2 * n
      → next_of (ladder_table n) (next_of (ladder_table n) s x) y ≡ ladder_next n (ladder_next n s x) y
  next_twice s x y h j k = rw (next_at n s x h j) (next_at n (ladder_next n s x) y (laws.next_low n s x h) k)

  -- two operations that act after one another
  act_twice : (y v x : ℕ) → y < 2 * n → v < 2 * n → x < 2 * n
      → act_of (ladder_table n) y (act_of (ladder_table n) v x) ≡ ladder_act n y (ladder_act n v x)
  act_twice y v x h j k = rw (act_at n v x j k) (act_at n y (ladder_act n v x) h (laws.act_low n v x k))

  same_level : (x y : ℕ) → x < 2 * n → y < 2 * n → level_of (ladder_table n) x ≡ level_of (ladder_table n) y → ladder_level n x ≡ ladder_level n y
  same_level x y h k e = omega (arith, level_at n x h, level_at n y k, e)

  lower_level : (x y : ℕ) → x < 2 * n → y < 2 * n → level_of (ladder_table n) x < level_of (ladder_table n) y → ladder_level n x < ladder_level n y
  lower_level x y h k e = omega (arith, level_at n x h, level_at n y k, e)

  upward : (y x : ℕ) → y < 2 * n → x < 2 * n → ActsUpward (ladder_table n) y x
  upward y x h k = record {
    level = rw (act_at n y x h k) (omega (arith, level_at n x k, level_at n (ladder_act n y x) (laws.act_low n y x k), laws.level-act n y x k));
    below = λ e. act_at n y x h k ∙ laws.act_below n y x (omega (arith, level_at n x k, level_at n y h, e));
  }

  commute : (x y s : ℕ) → x < 2 * n → y < 2 * n → s < n → Commute (ladder_table n) x y s
  commute x y s h k j same =
      let e : ladder_next n (ladder_next n s x) y ≡ ladder_next n (ladder_next n s y) x = laws.commute n s x y h k (same_level x y h k same) in
      next_twice s x y j h k ∙ e ∙ sym (next_twice s y x j k h)

  exchange : (y x s : ℕ) → y < 2 * n → x < 2 * n → s < n → Exchange (ladder_table n) y x s
  exchange y x s h k j lower =
      let e : ladder_next n (ladder_next n s x) y ≡ ladder_next n (ladder_next n s y) (ladder_act n y x) =
      laws.exchange n s x y k h (lower_level x y k h lower) in
      rw (act_at n y x h k) (next_twice s x y j k h ∙ e ∙ sym (next_twice s y (ladder_act n y x) j h (laws.act_low n y x k)))

  act_alike : (y v x : ℕ) → y < 2 * n → v < 2 * n → x < 2 * n → ActAlike (ladder_table n) y v x
  act_alike y v x h j k same _ =
      act_twice y v x h j k ∙ laws.act-act n y v x h j k (same_level y v h j same) ∙ sym (act_twice v y x j h k)

  distribute : (z y x : ℕ) → z < 2 * n → y < 2 * n → x < 2 * n → Distribute (ladder_table n) z y x
  distribute z y x h j k one two =
      let e = laws.distribute n z y x h j k (lower_level x y k j one) (lower_level y z j h two) in
      rw (act_at n z y h j, act_at n z x h k, act_at n y x j k)
      (act_at n z (ladder_act n y x) h (laws.act_low n y x k) ∙ e
      ∙ sym (act_at n (ladder_act n z y) (ladder_act n z x) (laws.act_low n z y j) (laws.act_low n z x k)))

  pub keeps_laws : KeepsLaws (ladder_table n)
  keeps_laws = record {
    upward = λ y x h k. upward y x (op y h) (op x k);
    commute = λ x y s h k j. commute x y s (op x h) (op y k) j;
    exchange = λ y x s h k j. exchange y x s (op y h) (op x k) j;
    act_alike = λ y v x h j k. act_alike y v x (op y h) (op v j) (op x k);
    distribute = λ z y x h j k. distribute z y x (op z h) (op y j) (op x k);
  }
