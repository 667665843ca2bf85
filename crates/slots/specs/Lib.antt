-- One slot word: the numbers of the document, the payload rule, the match, and the eight cases. Read in this order.
pub mod Numbers
pub mod Payload
pub mod Kinds
