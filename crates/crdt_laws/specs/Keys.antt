-- Keys that the operations of a document may have.
use Rattle.std.specs.Prelude.{ℕ, ◌*◌, ◌<◌, ◌≤◌}
use Rattle.vector_clock.specs.declared.stamp.Key.{Key}
use Rattle.vector_clock.specs.Clock.{max_seq}

-- a key that a valid operation of a document with n members may have
pub record IsKeyOf (n : ℕ) (k : Key) : Type 0 where
  pub sum : k.sum ≤ n * max_seq
  pub member : k.member < n
  pub low : 1 ≤ k.seq
  pub high : k.seq ≤ max_seq
