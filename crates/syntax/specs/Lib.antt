-- Programs as text: the definitions that the contracts cite.
pub mod Decimal
pub mod Answers
pub mod Words
