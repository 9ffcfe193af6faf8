-- The examples hold: each side computes to the same value. Assumes nothing.
use Rattle.std.proofs.Common.{refl}
use lib.Count.{ones, ones_in}
use Rattle.samples.specs.Mappings.{MappingExamples}

pub mapping_examples : MappingExamples
unfolding ones ones_in
mapping_examples = record {
  stride_second = refl;
  stride_last = refl;
  stride_extent = refl;
  stride_vast = refl;
  stride_arms = refl;
  stride_far = refl;
  stride_fits = refl;
  stride_crosses = refl;
  transpose_down = refl;
  transpose_right = refl;
  transpose_inner = refl;
  colour_before = refl;
  colour_first = refl;
  colour_second = refl;
}
