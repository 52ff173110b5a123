-- A link of the plan. A model of our code, and no promise.
use Rattle.std.specs.Prelude.{List, ℕ, ◌%◌}
use Rattle.std.proofs.Math.Nat.{mod-lt, zero-lt-suc}
use Rattle.plan.specs.declared.link.Link as code

-- a link as the code holds it
abbrev pub Link : Type 0
Link = code.Link

abbrev pub Links : Type 0
Links = List Link

-- the link that nothing was told
abbrev pub untold : Link
untold = record {
  above = 0;
  begins = 0;
  rank = 0;
  above_small = zero-lt-suc 1023;
  begins_small = zero-lt-suc 1023;
  rank_small = zero-lt-suc 63;
}

-- the next node above that matters
abbrev pub above_in : Link → ℕ
above_in x = x.above

-- the highest node whose part can begin with this one
abbrev pub begins_in : Link → ℕ
begins_in x = x.begins

-- how many repeats stand below the node
abbrev pub rank_in : Link → ℕ
rank_in x = x.rank

-- the link that says what stands above, and no rank yet
abbrev pub told_in : ℕ → ℕ → Link
told_in above begins = record {
  above = above % 1024;
  begins = begins % 1024;
  rank = 0;
  above_small = mod-lt above (zero-lt-suc 1023);
  begins_small = mod-lt begins (zero-lt-suc 1023);
  rank_small = zero-lt-suc 63;
}

-- the link with this rank
abbrev pub ranked_in : Link → ℕ → Link
ranked_in x rank = record {
  above = x.above;
  begins = x.begins;
  rank = rank % 64;
  above_small = x.above_small;
  begins_small = x.begins_small;
  rank_small = mod-lt rank (zero-lt-suc 63);
}
