-- Numbers times their least common denominator; the sums of costs and cuts.
pub mod WholeLemmas
pub mod SumLemmas
pub mod DenominatorLemmas
