use Rattle.reset_products.specs.Cut.{clean_cut}
use Rattle.reset_products.specs.CutLaws.{cut_longest, cut_within}
use Rattle.reset_products.proofs.Settling.{clean_not_concurrent, cut_is_clean, prefix_from, prefix_to}
use Rattle.reset_products.proofs.laws.longest_clean_prefix.Goals as goal

pub returns : goal.returns
returns g c = record {
  test = λ k log n. (prefix_from k log n, prefix_to k log n);
  within = λ k log. cut_within log k;
  clean = λ k log. cut_is_clean k log;
  apart = λ k log. clean_not_concurrent k log (clean_cut log k) (cut_is_clean k log);
  longest = λ k log n m h. cut_longest log k n m (prefix_to k log n h);
}
